-- Each block of the layout but the entry has a predecessor before it.
use Rattle.std.proofs.Common.{◌≡◌, ◌∙◌, sym, refl, ap, subst, ℕ, zero, suc, ◌==◌, ◌⊎◌, inl, inr, ⊎_elim, Bool, true, false, cond, not, List, [], ◌∷◌, ◌++◌, length, Option, Some, None, arith, eqb-true, eq-eqb, option_map}
use Rattle.std.specs.List.{AllByRecursion, Contains, find, list_any, slice_get, last_or}
use Rattle.std.specs.Option.{option_or}
use Rattle.std.proofs.lemmas.Bool.{and_parts, both_ways, not-true, or_left, or_right}
use Rattle.std.proofs.lemmas.List.Elements.{All-contains, Contains-append_left, Contains-push_cases}
use Rattle.std.proofs.lemmas.Option.{same_Some, none-some}
use Rattle.bk_func.specs.declared.form.FormKind.TheVariants.{Missing}
use Rattle.bk_func.specs.declared.parts.Likely.{Likely}
use Rattle.bk_func.specs.declared.parts.Likely.TheVariants.{No, First, Second}
use Rattle.bk_func.specs.Records.{BlockRecord, FuncRecord}
use Rattle.bk_func.specs.Form.Parts.{IsBlockNumber}
use Rattle.bk_func.specs.Form.Text.{HasBlock, IsEntry}
use Rattle.bk_func.specs.Form.Walks.{Walk, begin, onward as go_on}
use Rattle.bk_func.proofs.Faults.{In}
use Rattle.bk_graph.specs.Joined.{IsJoined}
use Rattle.bk_graph.specs.Layout.{block_named, if_unplaced, is_placed, is_ready, laid_out, layout_from, layout_of, marked, next_block, next_successor, onward}
use Rattle.bk_graph.proofs.Crossing.{counted_once}
use Rattle.bk_live.specs.Live.{IsOrdered}
use Rattle.bk_live.proofs.Alone.{at_contains, block_alone, contains_at, found as counted_there}
use Rattle.bk_places.proofs.Elements.{to_contains, to_in}
use Rattle.bk_alloc_quality.proofs.Allotting.{found, found_in}
use Rattle.bk_alloc_whole.proofs.Words.{any_in}

-- the numbers of blocks that are laid out

pub data Laid (f : FuncRecord) : List ℕ → Type 0 where
  first : (b : BlockRecord) → IsEntry f b → Laid f (b.id ∷ [])
  more : (ns : List ℕ) (a b : BlockRecord) → Laid f ns → HasBlock f a → HasBlock f b → Contains ns a.id → Contains a.succs b.id → ¬ Contains ns b.id → Laid f (ns ++ b.id ∷ [])

-- tests

pub any_eq : (xs : List ℕ) (n : ℕ) → list_any (λ m. m == n) xs ≡ true → Contains xs n
any_eq xs n e = (let (m, i, h) = any_in (λ (m : ℕ). m == n) xs e in to_contains n xs (subst (λ (k : ℕ). In k xs) (eqb-true m n h) i))

eq_any_in : (xs : List ℕ) (n : ℕ) → In n xs → list_any (λ m. m == n) xs ≡ true
eq_any_in [] n i = elim i [ ]
eq_any_in (x ∷ xs) n (inl e) = or_left (x == n) (list_any (λ m. m == n) xs) (eq-eqb x n e)
eq_any_in (x ∷ xs) n (inr i) = or_right (x == n) (list_any (λ m. m == n) xs) (eq_any_in xs n i)

pub eq_any : (xs : List ℕ) (n : ℕ) → Contains xs n → list_any (λ m. m == n) xs ≡ true
eq_any xs n c = eq_any_in xs n (to_in n xs c)

either_some : (x y : Option ℕ) (n : ℕ) → option_or x y ≡ Some n → (x ≡ Some n) ⊎ (y ≡ Some n)
either_some None y n e = inr e
either_some (Some m) y n e = inl e

-- a block with the number
pub block_numbered : (f : FuncRecord) (n : ℕ) → IsBlockNumber f n → (b : BlockRecord) × HasBlock f b × (b.id ≡ n)
block_numbered f n h =
    let one : _ = counted_once f n h in
    let (i, b, at, e) = counted_there (λ (b : BlockRecord). b.id == n) f.blocks (omega (arith, one)) in
    (b, contains_at f.blocks i b at, eqb-true b.id n e)

pub same_block : (f : FuncRecord) (os : List (List ℕ)) → IsOrdered f os → (b c : BlockRecord) → HasBlock f b → HasBlock f c → b.id ≡ c.id → b ≡ c
same_block f os o b c hb hc e =
    let p = at_contains f.blocks b hb in
    let q = at_contains f.blocks c hc in
    same_Some b c (sym p.1 ∙ (ap (λ (i : ℕ). slice_get f.blocks i) (block_alone f os o p.0 q.0 b c p.1 q.1 e) ∙ q.1))

-- the successor that follows

unplaced_by : (ns : List ℕ) (m n : ℕ) (b : Bool) → is_placed ns m ≡ b → cond b None (Some m) ≡ Some n → (m ≡ n) × (is_placed ns n ≡ false)
unplaced_by ns m n true p e = absurd (none-some n e)
unplaced_by ns m n false p e = (let d : m ≡ n = same_Some m n e in (d, subst (λ (k : ℕ). is_placed ns k ≡ false) d p))

unplaced : (ns : List ℕ) (o : Option ℕ) (n : ℕ) → if_unplaced ns o ≡ Some n → (o ≡ Some n) × (is_placed ns n ≡ false)
unplaced ns None n e = absurd (none-some n e)
unplaced ns (Some m) n e = (let r = unplaced_by ns m n (is_placed ns m) refl e in (ap Some r.0, r.1))

marked_in : (l : Likely) (ss : List ℕ) (n : ℕ) → marked l ss ≡ Some n → Contains ss n
marked_in No ss n e = absurd (none-some n e)
marked_in First ss n e = contains_at ss 0 n e
marked_in Second ss n e = contains_at ss 1 n e

all_units : {A : Type 0} (xs : List A) → AllByRecursion (λ (x : A). Unit {0}) xs
all_units [] = tt
all_units (x ∷ xs) = (tt, all_units xs)

pub find_true : {A : Type 0} (t : A → Bool) (xs : List A) (x : A) → find t xs ≡ Some x → t x ≡ true
find_true {A} t xs x e = (found (λ (y : A). Unit {0}) t xs x (all_units xs) e).1

follows : (ns : List ℕ) (b : BlockRecord) (n : ℕ) → next_successor ns (Some b) ≡ Some n → Contains b.succs n × (is_placed ns n ≡ false)
follows ns b n e = ⊎_elim
    (λ (h : if_unplaced ns (marked b.likely b.succs) ≡ Some n). let r = unplaced ns (marked b.likely b.succs) n h in (marked_in b.likely b.succs n r.0, r.1))
    (λ (h : find (λ m. not (is_placed ns m)) b.succs ≡ Some n). (
      found_in (λ m. not (is_placed ns m)) b.succs n h,
      not-true (is_placed ns n) (find_true (λ m. not (is_placed ns m)) b.succs n h),
    ))
    (either_some (if_unplaced ns (marked b.likely b.succs)) (find (λ m. not (is_placed ns m)) b.succs) n e)

last_in : (o : Option ℕ) (xs : List ℕ) (m : ℕ) → last_or o xs ≡ Some m → (o ≡ Some m) ⊎ In m xs
last_in o [] m e = inl e
last_in o (x ∷ xs) m e = ⊎_elim
    (λ (h : Some x ≡ Some m). inr (inl (same_Some x m h)))
    (λ (i : In m xs). inr (inr i))
    (last_in (Some x) xs m e)

-- one more block

not_placed : (ns : List ℕ) (n : ℕ) → is_placed ns n ≡ false → ¬ Contains ns n
not_placed ns n e c = both_ways (is_placed ns n) e (eq_any ns n c)

after_last : (f : FuncRecord) → IsJoined f → (ns : List ℕ) → Laid f ns → (o : Option ℕ) → ((m : ℕ) → o ≡ Some m → Contains ns m) → (p : Option BlockRecord) → block_named f o ≡ p → (n : ℕ) → next_successor ns p ≡ Some n → Laid f (ns ++ n ∷ [])
after_last f g ns l None into p is n e = absurd (none-some n (ap (next_successor ns) is ∙ e))
after_last f g ns l (Some m) into None is n e = absurd (none-some n e)
after_last f g ns l (Some m) into (Some a) is n e =
    let ha : HasBlock f a = found_in (λ (b : BlockRecord). b.id == m) f.blocks a is in
    let ida : a.id ≡ m = eqb-true a.id m (find_true (λ (b : BlockRecord). b.id == m) f.blocks a is) in
    let (succ, free) = follows ns a n e in
    let (b, hb, idb) = block_numbered f n (All-contains (IsBlockNumber f) a.succs n (g.named a ha) succ) in
    subst (λ (k : ℕ). Laid f (ns ++ k ∷ [])) idb
    (more ns a b l ha hb (subst (λ (k : ℕ). Contains ns k) (sym ida) (into m refl)) (subst (λ (k : ℕ). Contains a.succs k) (sym idb) succ) (λ c. not_placed ns n free (subst (λ (k : ℕ). Contains ns k) idb c)))

after_ready : (f : FuncRecord) (os : List (List ℕ)) → IsOrdered f os → IsJoined f → (ns : List ℕ) → Laid f ns → (p : Option BlockRecord) → find (is_ready ns) f.blocks ≡ p → (n : ℕ) → option_map (λ (b : BlockRecord). b.id) p ≡ Some n
    → Laid f (ns ++ n ∷ [])
after_ready f os o g ns l None is n e = absurd (none-some n e)
after_ready f os o g ns l (Some b) is n e =
    let hb : HasBlock f b = found_in (is_ready ns) f.blocks b is in
    let (free, led) = and_parts (not (is_placed ns b.id)) (list_any (is_placed ns) b.preds) (find_true (is_ready ns) f.blocks b is) in
    let (m, im, placed) = any_in (is_placed ns) b.preds led in
    let (a, ha, ida) = block_numbered f m (All-contains (IsBlockNumber f) b.preds m (o.formed.kinds Missing b hb).block.preds (to_contains m b.preds im)) in
    let pred : Contains b.preds a.id = subst (λ (k : ℕ). Contains b.preds k) (sym ida) (to_contains m b.preds im) in
    let succ : Contains a.succs b.id = any_eq a.succs b.id (sym (g.agree a b ha hb) ∙ eq_any b.preds a.id pred) in
    subst (λ (k : ℕ). Laid f (ns ++ k ∷ [])) (same_Some b.id n e)
    (more ns a b l ha hb (subst (λ (k : ℕ). Contains ns k) (sym ida) (any_eq ns m placed)) succ (not_placed ns b.id (not-true (is_placed ns b.id) free)))

last_laid : (ns : List ℕ) (m : ℕ) → last_or None ns ≡ Some m → Contains ns m
last_laid ns m e = ⊎_elim (λ (h : None ≡ Some m). absurd (none-some m h)) (λ (i : In m ns). to_contains m ns i) (last_in None ns m e)

step : (f : FuncRecord) (os : List (List ℕ)) → IsOrdered f os → IsJoined f → (ns : List ℕ) → Laid f ns → (n : ℕ) → next_block f ns ≡ Some n → Laid f (ns ++ n ∷ [])
step f os o g ns l n e = ⊎_elim
    (λ (h : next_successor ns (block_named f (last_or None ns)) ≡ Some n). after_last f g ns l (last_or None ns) (last_laid ns) (block_named f (last_or None ns)) refl n h)
    (λ (h : option_map (λ (b : BlockRecord). b.id) (find (is_ready ns) f.blocks) ≡ Some n). after_ready f os o g ns l (find (is_ready ns) f.blocks) refl n h)
    (either_some (next_successor ns (block_named f (last_or None ns))) (option_map (λ (b : BlockRecord). b.id) (find (is_ready ns) f.blocks)) n e)

laid_on : (f : FuncRecord) (os : List (List ℕ)) → IsOrdered f os → IsJoined f → (k : ℕ) (ns : List ℕ) → Laid f ns → Laid f (laid_out k f ns)
unfolding laid_out
laid_on f os o g zero ns l = l
laid_on f os o g (suc k) ns l = go (next_block f ns) refl (λ n h. laid_on f os o g k (ns ++ n ∷ []) h)
  where
    go : (p : Option ℕ) → next_block f ns ≡ p → ((n : ℕ) → Laid f (ns ++ n ∷ []) → Laid f (laid_out k f (ns ++ n ∷ []))) → Laid f (onward p ns (laid_out k f))
    go None e r = l
    go (Some n) e r = r n (step f os o g ns l n e)

from_entry : (f : FuncRecord) (os : List (List ℕ)) → IsOrdered f os → IsJoined f → (bs : List BlockRecord) → f.blocks ≡ bs → Laid f (layout_from f bs)
from_entry f os o g [] e = absurd (o.formed.blocks e)
from_entry f os o g (b ∷ bs) e = laid_on f os o g (length bs) (b.id ∷ []) (first b (ap (λ (l : List BlockRecord). slice_get l 0) e))

pub laid : (f : FuncRecord) (os : List (List ℕ)) → IsOrdered f os → IsJoined f → Laid f (layout_of f)
laid f os o g = from_entry f os o g f.blocks refl

-- walks to the blocks that are laid out

pub record Clear (f : FuncRecord) (ns : List ℕ) (b : BlockRecord) : Type 0 where
  pub before : List BlockRecord
  pub walk : Walk f (b ∷ before)
  pub other : (c : BlockRecord) → Contains before c → ¬ (c.id ≡ b.id)
  pub blocks : (c : BlockRecord) → Contains before c → HasBlock f c
  pub inside : (c : BlockRecord) → Contains before c → Contains ns c.id

nothing_in : (c : BlockRecord) → Contains {X = BlockRecord} [] c → ⊥
nothing_in c (k, l, e) = omega (arith, l)

over : (P : BlockRecord → Type 0) (a : BlockRecord) (w : List BlockRecord) → P a → ((c : BlockRecord) → Contains w c → P c) → (c : BlockRecord) → Contains (a ∷ w) c → P c
over P a w h r c (zero, l, e) = subst P e h
over P a w h r c (suc k, l, e) = r c (k, omega arith, e)

wider : (f : FuncRecord) (ns : List ℕ) (n : ℕ) (b : BlockRecord) → Clear f ns b → Clear f (ns ++ n ∷ []) b
wider f ns n b r = record { before = r.before; walk = r.walk; other = r.other; blocks = r.blocks; inside = λ c i. Contains-append_left ns (n ∷ []) c.id (r.inside c i) }

pub clear : (f : FuncRecord) (os : List (List ℕ)) → IsOrdered f os → (ns : List ℕ) → Laid f ns → (b : BlockRecord) → HasBlock f b → Contains ns b.id → Clear f ns b
clear f os o _ (first d e) b hb (zero, l, q) =
    let same : d ≡ b = same_block f os o d b (contains_at f.blocks 0 d e) hb q in
    record {
      before = [];
      walk = begin b (subst (λ (x : BlockRecord). IsEntry f x) same e);
      other = λ c i. absurd (nothing_in c i);
      blocks = λ c i. absurd (nothing_in c i);
      inside = λ c i. absurd (nothing_in c i);
    }
clear f os o _ (first d e) b hb (suc k, l, q) = absurd (omega arith)
clear f os o _ (more ns a d l ha hd ca s n) b hb c = ⊎_elim
    (λ (i : Contains ns b.id). wider f ns d.id b (clear f os o ns l b hb i))
    (λ (e : d.id ≡ b.id).
    let r = clear f os o ns l a ha ca in
    let same : d ≡ b = same_block f os o d b hd hb e in
    let fresh : ¬ Contains ns b.id = λ i. n (subst (λ (k : ℕ). Contains ns k) (sym e) i) in
    record {
      before = a ∷ r.before;
      walk = go_on a b r.before r.walk hb (subst (λ (k : ℕ). Contains a.succs k) e s);
      other = over (λ (x : BlockRecord). ¬ (x.id ≡ b.id)) a r.before (λ q. fresh (subst (λ (k : ℕ). Contains ns k) q ca)) (λ x i q. fresh (subst (λ (k : ℕ). Contains ns k) q (r.inside x i)));
      blocks = over (HasBlock f) a r.before ha r.blocks;
      inside = over (λ (x : BlockRecord). Contains (ns ++ d.id ∷ []) x.id) a r.before (Contains-append_left ns (d.id ∷ []) a.id ca) (λ x i. Contains-append_left ns (d.id ∷ []) x.id (r.inside x i));
    })
    (Contains-push_cases ns d.id b.id c)
