-- Types by their names, and between `<` and `>`: read exactly where their parts spell one.
use Rattle.std.proofs.Common.{◌≡◌, ◌≢◌, ℕ, suc, ◌<◌, List, [], ◌∷◌, ◌++◌, length, ap, ◌∙◌, sym, refl, subst, arith, Bool, true, false, cond, Option, Some, ◌⊎◌, inl, inr, ⊎_elim}
use Rattle.std.specs.Prelude.{codes, ◌==◌, ◌&&◌, ◌||◌, nat_lt, slice_index}
use Rattle.std.specs.List.{AllByRecursion, find}
use Rattle.std.specs.Option.{option_map}
use Rattle.std.specs.Str.{bytes_eq}
use Rattle.std.proofs.lemmas.Bool.Decides.{nat_tests}
use Rattle.bk_ops.specs.declared.types.Ty.{Ty}
use Rattle.bk_ops.specs.declared.types.Ty.TheVariants.{Bool as Truth, Int8, Uint8, Int16, Uint16, Int32, Uint32, Int64, Uint64, Int, Uint, Uintptr, Ptr, Mem, Void, Tuple}
use Rattle.bk_dump.specs.Front.{◌>>=◌}
use Rattle.bk_dump.specs.Words.{plain_at}
use Rattle.bk_dump.specs.Types.{word_types, is_pointer, word_type, named_type, with_type, place_type_at, one_type_at, is_word_type}
use Rattle.bk_dump.specs.Print.{type_name}
use Rattle.bk_dump.specs.Parts.{Part, word, Lays}
use Rattle.bk_dump_laws.specs.Lines.{IsWordType, IsPointer, IsOneType, IsPlace}
use Rattle.bk_dump.proofs.Runs.{all_pass}
use Rattle.bk_dump.proofs.Shrinking.{bind_some, map_some}
use Rattle.bk_dump_laws.proofs.SpelledTypes.{is_single, word_type_again, named_type_again}
use Rattle.bk_dump_laws.proofs.Laying.{some_is, plain_lays, plain_reads}
use Rattle.bk_dump_laws.proofs.LaidNumbers.{free}
use Rattle.bk_dump_laws.proofs.LaidLists.{Item}
use Rattle.bk_dump_laws.proofs.LaidEnds.{found_passes, same_bytes}

-- Pointers.

bytes_self : (xs : List ℕ) → bytes_eq xs xs ≡ true
bytes_self [] = refl
bytes_self (x ∷ xs) = let e : (x == x) ≡ true = grind (arith, nat_tests) in ap (λ b. b && bytes_eq xs xs) e ∙ bytes_self xs

bytes_same : (xs ys : List ℕ) → xs ≡ ys → bytes_eq xs ys ≡ true
bytes_same xs ys h = ap (λ zs. bytes_eq zs ys) h ∙ bytes_self ys

star_step : (c n : ℕ) (b : Bool) → (b || (nat_lt 1 n && c == 42)) ≡ true → (b ≡ true) ⊎ ((1 < n) × (c ≡ 42))
star_step c n true h = inl refl
star_step c n false h = inr (grind (arith, nat_tests), grind (arith, nat_tests))

starred : (name : List ℕ) → 1 < length name → slice_index name 0 ≡ 42 → (to : List ℕ) × (name ≡ 42 ∷ to) × (0 < length to)
starred [] h e = absurd (omega arith)
starred (c ∷ to) h e = (to, ap (λ d. d ∷ to) e, omega arith)

pub pointer_is : (name : List ℕ) → is_pointer name ≡ true → IsPointer name
unfolding is_pointer
pointer_is name h =
    ⊎_elim (λ e. inl (same_bytes name (codes "unsafe.Pointer") e)) (λ e. inr (starred name e.0 e.1))
    (star_step (slice_index name 0) (length name) (bytes_eq name (codes "unsafe.Pointer")) h)

or_left : (b c : Bool) → b ≡ true → (b || c) ≡ true
or_left true c h = refl
or_left false c h = absurd (cc)

or_right : (b c : Bool) → c ≡ true → (b || c) ≡ true
or_right true c h = refl
or_right false c h = h

longer : (n : ℕ) → 0 < n → nat_lt 1 (suc n) ≡ true
longer n h = grind (arith, nat_tests)

star_again : (to : List ℕ) → 0 < length to → (nat_lt 1 (length (42 ∷ to)) && slice_index (42 ∷ to) 0 == 42) ≡ true
star_again to h = ap (λ b. b && true) (longer (length to) h)

pub is_pointer_again : (name : List ℕ) → IsPointer name → is_pointer name ≡ true
unfolding is_pointer
is_pointer_again name h =
    ⊎_elim (λ e. or_left (bytes_eq name (codes "unsafe.Pointer")) _ (bytes_same name (codes "unsafe.Pointer") e))
    (λ e. or_right (bytes_eq name (codes "unsafe.Pointer")) _ (ap (λ n. nat_lt 1 (length n) && slice_index n 0 == 42) e.1 ∙ star_again e.0 e.2)) h

-- Types of words.

pub word_is : (ty : Ty) → is_word_type ty ≡ true → IsWordType ty
word_is ty h = (
  λ e. absurd (let f : is_word_type Mem ≡ true = ap is_word_type (sym e) ∙ h in cc),
  λ e. absurd (let f : is_word_type Void ≡ true = ap is_word_type (sym e) ∙ h in cc),
  λ e. absurd (let f : is_word_type Tuple ≡ true = ap is_word_type (sym e) ∙ h in cc),
)

pub is_word : (ty : Ty) → IsWordType ty → is_word_type ty ≡ true
is_word Truth h = refl
is_word Int8 h = refl
is_word Uint8 h = refl
is_word Int16 h = refl
is_word Uint16 h = refl
is_word Int32 h = refl
is_word Uint32 h = refl
is_word Int64 h = refl
is_word Uint64 h = refl
is_word Int h = refl
is_word Uint h = refl
is_word Uintptr h = refl
is_word Ptr h = refl
is_word Mem h = absurd (h.0 refl)
is_word Void h = absurd (h.1 refl)
is_word Tuple h = absurd (h.2 refl)

word_single : (ty : Ty) → is_word_type ty ≡ true → ty ≢ Tuple
word_single ty h = λ e. absurd (let f : is_word_type Tuple ≡ true = ap is_word_type (sym e) ∙ h in cc)

found_step : {A : Type 0} (Q : A → Type 0) (x : A) (rest : Option A) (y : A) (b : Bool) → Q x → (rest ≡ Some y → Q y) → cond b (Some x) rest ≡ Some y → Q y
found_step Q x rest y true q f h = subst Q (some_is x y h) q
found_step Q x rest y false q f h = f h

found_one : {A : Type 0} (p : A → Bool) (Q : A → Type 0) (xs : List A) (y : A) → AllByRecursion Q xs → find p xs ≡ Some y → Q y
found_one p Q [] y a h = absurd (cc)
found_one p Q (x ∷ xs) y a h = found_step Q x (find p xs) y (p x) a.0 (λ g. found_one p Q xs y a.1 g) h

all_words : AllByRecursion (λ t. is_word_type t ≡ true) word_types
unfolding word_types
all_words = all_pass is_word_type word_types refl

abbrev pub IsPlaceName : List ℕ → Ty → Type 0
IsPlaceName name ty = ((name ≡ type_name ty) × IsWordType ty) ⊎ (IsPointer name × (ty ≡ Ptr))

word_step : (name : List ℕ) (ty : Ty) (b : Bool) → is_pointer name ≡ b → cond b (Some Ptr) (find (λ t. bytes_eq (type_name t) name) word_types) ≡ Some ty → IsPlaceName name ty
word_step name ty true e h = inr (pointer_is name e, sym (some_is Ptr ty h))
word_step name ty false e h =
    inl (
      sym (same_bytes (type_name ty) name (found_passes (λ t. bytes_eq (type_name t) name) word_types ty h)),
      word_is ty (found_one (λ t. bytes_eq (type_name t) name) (λ t. is_word_type t ≡ true) word_types ty all_words h),
    )

word_named : (name : List ℕ) (ty : Ty) → word_type name ≡ Some ty → IsPlaceName name ty
unfolding word_type
word_named name ty h = word_step name ty (is_pointer name) refl h

pointer_named : (name : List ℕ) → IsPointer name → word_type name ≡ Some Ptr
unfolding word_type
pointer_named name h = ap (λ b. cond b (Some Ptr) (find (λ t. bytes_eq (type_name t) name) word_types)) (is_pointer_again name h)

named_word : (name : List ℕ) (ty : Ty) → IsPlaceName name ty → word_type name ≡ Some ty
named_word name ty h = ⊎_elim (λ e. ap word_type e.0 ∙ word_type_again ty (is_word ty e.1)) (λ e. pointer_named name e.0 ∙ ap Some (sym e.1)) h

-- Types of one name.

abbrev pub IsOneName : List ℕ → Ty → Type 0
IsOneName name ty = ((name ≡ type_name ty) × (ty ≢ Tuple)) ⊎ (IsPointer name × (ty ≡ Ptr))

mem_single : Mem ≢ Tuple
mem_single = λ e. absurd (cc)

void_single : Void ≢ Tuple
void_single = λ e. absurd (cc)

single : (ty : Ty) → ty ≢ Tuple → is_single ty ≡ true
single Truth h = refl
single Int8 h = refl
single Uint8 h = refl
single Int16 h = refl
single Uint16 h = refl
single Int32 h = refl
single Uint32 h = refl
single Int64 h = refl
single Uint64 h = refl
single Int h = refl
single Uint h = refl
single Uintptr h = refl
single Ptr h = refl
single Mem h = refl
single Void h = refl
single Tuple h = absurd (h refl)

pub one_of_place : (name : List ℕ) (ty : Ty) → IsPlaceName name ty → IsOneName name ty
one_of_place name ty h = ⊎_elim (λ e. inl (e.0, e.1.2)) (λ e. inr e) h

mem_name : codes "mem" ≡ type_name Mem
unfolding type_name
mem_name = refl

void_name : codes "void" ≡ type_name Void
unfolding type_name
void_name = refl

named_step : (name : List ℕ) (ty : Ty) (b c : Bool) → bytes_eq name (codes "mem") ≡ b → bytes_eq name (codes "void") ≡ c → cond b (Some Mem) (cond c (Some Void) (word_type name)) ≡ Some ty → IsOneName name ty
named_step name ty true c e f h = subst (IsOneName name) (some_is Mem ty h) (inl (same_bytes name (codes "mem") e ∙ mem_name, mem_single))
named_step name ty false true e f h = subst (IsOneName name) (some_is Void ty h) (inl (same_bytes name (codes "void") f ∙ void_name, void_single))
named_step name ty false false e f h = one_of_place name ty (word_named name ty h)

one_named : (name : List ℕ) (ty : Ty) → named_type name ≡ Some ty → IsOneName name ty
unfolding named_type
one_named name ty h = named_step name ty (bytes_eq name (codes "mem")) (bytes_eq name (codes "void")) refl refl h

other_first : (c : ℕ) (xs ys : List ℕ) (d : ℕ) → (c == d) ≡ false → bytes_eq (c ∷ xs) (d ∷ ys) ≡ false
other_first c xs ys d h = ap (λ b. b && bytes_eq xs ys) h

not_mem : (name : List ℕ) → IsPointer name → bytes_eq name (codes "mem") ≡ false
not_mem name h = ⊎_elim (λ e. ap (λ n. bytes_eq n (codes "mem")) e) (λ e. ap (λ n. bytes_eq n (codes "mem")) e.1) h

not_void : (name : List ℕ) → IsPointer name → bytes_eq name (codes "void") ≡ false
not_void name h = ⊎_elim (λ e. ap (λ n. bytes_eq n (codes "void")) e) (λ e. ap (λ n. bytes_eq n (codes "void")) e.1) h

pointer_one : (name : List ℕ) → IsPointer name → named_type name ≡ Some Ptr
unfolding named_type
pointer_one name h =
    ap (λ b. cond b (Some Mem) (cond (bytes_eq name (codes "void")) (Some Void) (word_type name))) (not_mem name h)
    ∙ ap (λ b. cond b (Some Void) (word_type name)) (not_void name h)
    ∙ pointer_named name h

named_one : (name : List ℕ) (ty : Ty) → IsOneName name ty → named_type name ≡ Some ty
named_one name ty h = ⊎_elim (λ e. ap named_type e.0 ∙ named_type_again ty (single ty e.1)) (λ e. pointer_one name e.0 ∙ ap Some (sym e.1)) h

-- At the front of a text.

abbrev pub IsOne : List Part → Ty → Type 0
IsOne parts ty = (name : List ℕ) × (parts ≡ word name ∷ []) × IsOneType name ty

pub place_item : Item place_type_at IsPlace
unfolding place_type_at
place_item = record {
  lays = λ text ty r h.
      let n = bind_some (plain_at text) _ (ty, r) h in
      let t = map_some _ (word_type n.0.0) (ty, r) n.2 in
      let f = plain_lays text n.0.0 n.0.1 n.1 in
      let same : t.0 ≡ ty = ap (λ x. x.0) t.2 in
      let rest : n.0.1 ≡ r = ap (λ x. x.1) t.2 in
      record {
        parts = word n.0.0 ∷ [];
        item = (n.0.0, refl, (f.name, subst (IsPlaceName n.0.0) same (word_named n.0.0 t.0 t.1)));
        lays = λ more w l. let k : Lays more n.0.1 = subst (Lays more) (sym rest) l in f.lays more (free (word n.0.0) more n.0.1 w) k;
      };
  reads = λ parts ty more text h g l.
      let f = plain_reads h.0 more text h.2.0 g (subst (λ ps. Lays (ps ++ more) text) h.1 l) in
      record {
        rest = f.rest;
        is = ap (λ o. o >>= with_type word_type) f.is ∙ ap (λ o. option_map (λ t. (t, f.rest)) o) (named_word h.0 ty h.2.1);
        laid = f.laid;
      };
}

pub one_item : Item one_type_at IsOne
unfolding one_type_at
one_item = record {
  lays = λ text ty r h.
      let n = bind_some (plain_at text) _ (ty, r) h in
      let t = map_some _ (named_type n.0.0) (ty, r) n.2 in
      let f = plain_lays text n.0.0 n.0.1 n.1 in
      let same : t.0 ≡ ty = ap (λ x. x.0) t.2 in
      let rest : n.0.1 ≡ r = ap (λ x. x.1) t.2 in
      record {
        parts = word n.0.0 ∷ [];
        item = (n.0.0, refl, (f.name, subst (IsOneName n.0.0) same (one_named n.0.0 t.0 t.1)));
        lays = λ more w l. let k : Lays more n.0.1 = subst (Lays more) (sym rest) l in f.lays more (free (word n.0.0) more n.0.1 w) k;
      };
  reads = λ parts ty more text h g l.
      let f = plain_reads h.0 more text h.2.0 g (subst (λ ps. Lays (ps ++ more) text) h.1 l) in
      record {
        rest = f.rest;
        is = ap (λ o. o >>= with_type named_type) f.is ∙ ap (λ o. option_map (λ t. (t, f.rest)) o) (named_one h.0 ty h.2.1);
        laid = f.laid;
      };
}
