-- Moves of named places do to the machine's places what the moves do to the places that are named.
use Rattle.std.proofs.Common.{◌≡◌, ℕ, ◌<◌, ◌≤◌, refl, ap, sym, ◌∙◌, subst, arith, ◌⊎◌, inl, inr, List, [], ◌∷◌, length, Option, Some, None, Bool, true, false, cond, ◌==◌, eq-eqb, ne_eqb, eqb-true, map, get_or}
use Rattle.std.specs.List.{AllByRecursion, Contains, find}
use Rattle.std.specs.Option.{option_map}
use Rattle.std.proofs.lemmas.Bool.{cases_eq, cases_lt}
use Rattle.std.proofs.lemmas.List.Sums.{fails_before_first, passes_at_first}
use Rattle.bk_func.specs.declared.parts.Loc.{Loc}
use Rattle.bk_func.specs.declared.parts.Loc.TheVariants.{Reg, Slot, Swap}
use Rattle.bk_shuffle.specs.AtOnce.{after_all, goes_to, held_by}
use Rattle.bk_shuffle.specs.Sequence.{Move, place_of}
use Rattle.bk_alloc.specs.Placing.{name_of, named, slot_of}
use Rattle.bk_alloc_laws.specs.Mirror.{BothNamed, IsNamed, Names, Mirrors}

slot_by : (hs : List ℕ) (v k : ℕ) → k < length hs → (get_or hs k v == v) ≡ true → (slot_of hs v < length hs) ⊎ (length hs ≤ slot_of hs v) → slot_of hs v < length hs
slot_by hs v k l e (inl h) = h
slot_by hs v k l e (inr h) = let f : (get_or hs k v == v) ≡ false = fails_before_first (λ x. x == v) hs k v (omega arith) in absurd cc

pub slot_within : (hs : List ℕ) (v : ℕ) → Contains hs v → slot_of hs v < length hs
slot_within hs v (k, l, e) = slot_by hs v k l (eq-eqb (get_or hs k v) v e) (cases_lt (slot_of hs v) (length hs))

pub slot_has : (hs : List ℕ) (v d : ℕ) → Contains hs v → get_or hs (slot_of hs v) d ≡ v
slot_has hs v d c = eqb-true (get_or hs (slot_of hs v) d) v (passes_at_first (λ x. x == v) hs d (slot_within hs v c))

pub slot_apart : (hs : List ℕ) (u v : ℕ) → Contains hs u → Contains hs v → slot_of hs u ≡ slot_of hs v → u ≡ v
slot_apart hs u v c d e = sym (slot_has hs u 0 c) ∙ (ap (λ k. get_or hs k 0) e ∙ slot_has hs v 0 d)

module _ (count : ℕ) where
  -- places are one exactly if their names are

  same_named : (number : ℕ → ℕ) (hs : List ℕ) → Names count number → (a b : Loc) → IsNamed count hs a → IsNamed count hs b → place_of (name_of number hs a) ≡ place_of (name_of number hs b) → a ≡ b
  same_named number hs n (Reg q) (Reg r) p z e = ap Reg (n.apart q r p z e)
  same_named number hs n (Reg q) (Slot v) p z e = absurd (let l = n.below q p in omega arith)
  same_named number hs n (Reg q) Swap p z e = absurd z
  same_named number hs n (Slot u) (Reg r) p z e = absurd (let l = n.below r z in omega arith)
  same_named number hs n (Slot u) (Slot v) p z e = let f : slot_of hs u ≡ slot_of hs v = omega arith in ap Slot (slot_apart hs u v p z f)
  same_named number hs n (Slot u) Swap p z e = absurd z
  same_named number hs n Swap b p z e = absurd p

  same_loc : (hs : List ℕ) → count ≤ 256 → (a b : Loc) → IsNamed count hs a → IsNamed count hs b → place_of a ≡ place_of b → a ≡ b
  same_loc hs few (Reg q) (Reg r) p z e = ap Reg e
  same_loc hs few (Reg q) (Slot v) p z e = absurd (omega arith)
  same_loc hs few (Reg q) Swap p z e = absurd z
  same_loc hs few (Slot u) (Reg r) p z e = absurd (omega arith)
  same_loc hs few (Slot u) (Slot v) p z e = let f : u ≡ v = omega arith in ap Slot f
  same_loc hs few (Slot u) Swap p z e = absurd z
  same_loc hs few Swap b p z e = absurd p

  test_by : (number : ℕ → ℕ) (hs : List ℕ) → Names count number → (a b : Loc) → IsNamed count hs a → IsNamed count hs b → (place_of a ≡ place_of b) ⊎ (place_of a ≡ place_of b → ⊥)
      → (place_of (name_of number hs a) == place_of (name_of number hs b)) ≡ (place_of a == place_of b)
  test_by number hs n a b p z (inl e) =
      eq-eqb (place_of (name_of number hs a)) (place_of (name_of number hs b)) (ap (λ l. place_of (name_of number hs l)) (same_loc hs n.few a b p z e)) ∙ sym (eq-eqb (place_of a) (place_of b) e)
  test_by number hs n a b p z (inr e) =
      ne_eqb (place_of (name_of number hs a)) (place_of (name_of number hs b)) (λ f. e (ap place_of (same_named number hs n a b p z f))) ∙ sym (ne_eqb (place_of a) (place_of b) e)

  option_by : (f : Move → Move) (b : Bool) (x : Move) (o : Option Move) → cond b (Some (f x)) (option_map f o) ≡ option_map f (cond b (Some x) o)
  option_by f true x o = refl
  option_by f false x o = refl

  pub found_named : (number : ℕ → ℕ) (hs : List ℕ) → Names count number → (l : Loc) → IsNamed count hs l → (ms : List Move) → AllByRecursion (BothNamed count hs) ms
      → find (goes_to (place_of (name_of number hs l))) (map (named number hs) ms) ≡ option_map (named number hs) (find (goes_to (place_of l)) ms)
  found_named number hs n l p [] a = refl
  found_named number hs n l p (m ∷ ms) a =
      ap (λ b. cond b (Some (named number hs m)) (find (goes_to (place_of (name_of number hs l))) (map (named number hs) ms))) (test_by number hs n m.1 l a.0.destination p (cases_eq (place_of m.1) (place_of l)))
      ∙ (ap (λ o. cond (place_of m.1 == place_of l) (Some (named number hs m)) o) (found_named number hs n l p ms a.1)
      ∙ option_by (named number hs) (place_of m.1 == place_of l) m (find (goes_to (place_of l)) ms))

  mirror_at : (number : ℕ → ℕ) (hs : List ℕ) (s m : Loc → ℕ) → Mirrors count number hs s m → (l : Loc) → IsNamed count hs l → m (name_of number hs l) ≡ s l
  mirror_at number hs s m h (Reg r) p = h.registers r p
  mirror_at number hs s m h (Slot v) p = h.slots v p
  mirror_at number hs s m h Swap p = absurd p

  found_source : (hs : List ℕ) (ok : Move → Bool) (x : Move) (ms : List Move) → AllByRecursion (BothNamed count hs) ms → find ok ms ≡ Some x → IsNamed count hs x.0
  found_source hs ok x [] a e = absurd cc
  found_source hs ok x (m ∷ ms) a e = source_by hs m x (find ok ms) a.0.source (found_source hs ok x ms a.1) (ok m) e
    where
      source_by : (hs : List ℕ) (m x : Move) (o : Option Move) → IsNamed count hs m.0 → (o ≡ Some x → IsNamed count hs x.0) → (b : Bool) → cond b (Some m) o ≡ Some x → IsNamed count hs x.0
      source_by hs m x o p r true g = let q : m ≡ x = cc in subst (λ (y : Move). IsNamed count hs y.0) q p
      source_by hs m x o p r false g = r g

  mirror_by : (number : ℕ → ℕ) (hs : List ℕ) (s m : Loc → ℕ) → Mirrors count number hs s m → (l : Loc) → IsNamed count hs l → (o : Option Move) → ((x : Move) → o ≡ Some x → IsNamed count hs x.0)
      → held_by m (name_of number hs l) (option_map (named number hs) o) ≡ held_by s l o
  mirror_by number hs s m h l p None r = mirror_at number hs s m h l p
  mirror_by number hs s m h l p (Some x) r = mirror_at number hs s m h x.0 (r x refl)

  moved_at : (number : ℕ → ℕ) (hs : List ℕ) (s m : Loc → ℕ) (ms : List Move) → Names count number → Mirrors count number hs s m → AllByRecursion (BothNamed count hs) ms → (l : Loc) → IsNamed count hs l
      → after_all (map (named number hs) ms) m (name_of number hs l) ≡ after_all ms s l
  moved_at number hs s m ms n h a l p =
      ap (held_by m (name_of number hs l)) (found_named number hs n l p ms a)
      ∙ mirror_by number hs s m h l p (find (goes_to (place_of l)) ms) (λ x e. found_source hs (goes_to (place_of l)) x ms a e)

  pub moves_mirror : (number : ℕ → ℕ) (hs : List ℕ) (s m : Loc → ℕ) (ms : List Move) → Names count number → Mirrors count number hs s m → AllByRecursion (BothNamed count hs) ms
      → Mirrors count number hs (after_all ms s) (after_all (map (named number hs) ms) m)
  moves_mirror number hs s m ms n h a = record {
    registers = λ r l. moved_at number hs s m ms n h a (Reg r) l;
    slots = λ v c. moved_at number hs s m ms n h a (Slot v) c;
  }
