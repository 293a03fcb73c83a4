-- A visit that looks through copies: numbers that the values may have after it are numbers that they may have before it.
use Rattle.std.proofs.Common.{◌≡◌, ℕ, ◌%◌, ◌^◌, refl, ap, subst, sym, ◌∙◌, List, [], ◌∷◌, map, Option, Some, None, Bool, true, false, inl, inr}
use Rattle.std.specs.Prelude.{slice_get, slice_set, slice_index, if◌then◌else◌, length, ◌-◌}
use Rattle.std.proofs.lemmas.Bool.{cases_eq}
use Rattle.std.proofs.lemmas.List.{append-nil}
use Rattle.bk_ops.specs.Values.{op_value}
use Rattle.bk_ops.specs.declared.family.Family.{Family}
use Rattle.bk_ops.specs.declared.family.Family.TheVariants as op
use Rattle.bk_func.specs.Records.{ValueRecord, BlockRecord, FuncRecord}
use Rattle.bk_func.specs.Edits.{greatest_value}
use Rattle.bk_func.specs.Numbers.{Program, Env, Origin, phi, argument, argument_word, result, address, loaded, checked, same, computed, value_of, number_by, origin_of, state_of, natural, callee_of, result_place, cut_result}
use Rattle.bk_func.specs.Symbols.{sig_of}
use Rattle.bk_func.proofs.Faults.{In}
use Rattle.bk_refine_laws.specs.Visits.{Look}
use Rattle.bk_rule.specs.WordSound.{bits}
use Rattle.bk_rewrite.specs.Places.{HasNumbers, value_at, with_block, in_place, with_made, value_limit, count_values}
use Rattle.bk_rewrite.specs.Passes.{is_copy, first_or, copied, copied_in, looked_through, with_value}
use Rattle.bk_rewrite.proofs.Standings.{named}
use Rattle.bk_rewrite.proofs.Turns.{counted_looked}
use Rattle.bk_refine_laws.specs.Possible.{HasLow, MayBe, Possible}
use Rattle.bk_refine_laws.proofs.Placed.{Edited, root_at, other_at, stands}
use Rattle.bk_refine_laws.proofs.Names.{may_alike}

as_edit : (f : FuncRecord) (b k : ℕ) (w : ValueRecord) → with_block f b (with_value k w) ≡ Edited f b k w []
as_edit f b k w = go (slice_get f.blocks b)
  where
    go : (o : Option BlockRecord) → record f { blocks = in_place f.blocks b o (with_value k w) } ≡ record f { blocks = in_place f.blocks b o (with_made k w []) }
    go None = refl
    go (Some x) = ap (λ vs. record f { blocks = slice_set f.blocks b (record x { values = slice_set vs k w }) }) (sym (append-nil x.values))

numbers_after : (f g : FuncRecord) (b k : ℕ) (v : ValueRecord) → Look f g b k v → HasNumbers g
numbers_after f g b k v l =
    subst HasNumbers (sym l.gives) (counted_looked f b k v (greatest_value f) (value_limit - count_values f) (record { numbers = l.numbers; greatest_is = refl; room_is = refl }) l.stands).numbers

looked_named : (f g : FuncRecord) (b k : ℕ) (v : ValueRecord) → Look f g b k v → value_of g v.id ≡ Some (looked_through f v)
looked_named f g b k v l =
    named g v.id b k (looked_through f v) (numbers_after f g b k v l)
    (ap (λ z. value_at z b k) (l.gives ∙ as_edit f b k (looked_through f v)) ∙ root_at f b k v (looked_through f v) [] l.stands) refl

kept_named : (f g : FuncRecord) (b k : ℕ) (v : ValueRecord) → Look f g b k v → (x : ℕ) (u : ValueRecord) → value_of f x ≡ Some u → (x ≡ v.id → ⊥) → value_of g x ≡ Some u
kept_named f g b k v l x u d n =
    let (c, j, q, i) = stands f.blocks x u d in
    let away : u ≡ v → ⊥ = λ z. n (sym i ∙ ap (λ (y : ValueRecord). y.id) z) in
    named g x c j u (numbers_after f g b k v l)
    (ap (λ z. value_at z c j) (l.gives ∙ as_edit f b k (looked_through f v)) ∙ other_at f b k v (looked_through f v) [] l.stands c j u q away) i

copies : (o : Family) → is_copy o ≡ true → origin_of o ≡ same
copies op.Copy e = refl
copies _ e = absurd cc

-- what a copy copies has the copy's number
copied_number : (p : Program) (f g : FuncRecord) (b k : ℕ) (v : ValueRecord) → Look f g b k v → (e : Env) (m : ℕ → ℕ) → Possible p g e m → (x : ℕ) → (x ≡ v.id → ⊥) → m (copied_in f x) ≡ m x
copied_number p f g b k v l e m h x n = go (value_of f x) refl
  where
    first : (c : ValueRecord) → origin_of c.op.family ≡ same → value_of g x ≡ Some c → m x ≡ m (slice_index c.args 0)
    first c q d = (let P : Origin → Type 0 = λ o. MayBe o p g e m c (m x) in subst P q (h x c d))

    args : (c : ValueRecord) (xs : List ℕ) → c.args ≡ xs → origin_of c.op.family ≡ same → value_of g x ≡ Some c → m (first_or xs x) ≡ m x
    args c [] q o d = refl
    args c (y ∷ ys) q o d = sym (first c o d ∙ ap (λ zs. m (slice_index zs 0)) q)

    test : (c : ValueRecord) (t : Bool) → is_copy c.op.family ≡ t → value_of g x ≡ Some c → m (if t then first_or c.args x else x) ≡ m x
    test c true q d = args c c.args refl (copies c.op.family q) d
    test c false q d = refl

    go : (o : Option ValueRecord) → value_of f x ≡ o → m (copied o x) ≡ m x
    go None d = refl
    go (Some c) d = test c (is_copy c.op.family) refl (kept_named f g b k v l x c d n)

same_numbers : (m h : ℕ → ℕ) (xs : List ℕ) → ((x : ℕ) → In x xs → m (h x) ≡ m x) → map m (map h xs) ≡ map m xs
same_numbers m h [] k = refl
same_numbers m h (x ∷ xs) k = ap (λ n. n ∷ map m (map h xs)) (k x (inl refl)) ∙ ap (λ ns. m x ∷ ns) (same_numbers m h xs (λ y i. k y (inr i)))

first_number : (m h : ℕ → ℕ) (xs : List ℕ) → ((x : ℕ) → In x xs → m (h x) ≡ m x) → m (slice_index (map h xs) 0) ≡ m (slice_index xs 0)
first_number m h [] k = refl
first_number m h (x ∷ xs) k = k x (inl refl)

first_name : (h : ℕ → ℕ) (xs : List ℕ) → h (slice_index xs 0) ≡ slice_index xs 0 → slice_index (map h xs) 0 ≡ slice_index xs 0
first_name h [] e = refl
first_name h (x ∷ xs) e = e

-- a result stands at the same place among those of its call
place_looked : (o : Family) (p : Program) (f g : FuncRecord) (v : ValueRecord) → callee_of f v ≡ callee_of g (looked_through f v) → result_place o p f v ≡ result_place o p g (looked_through f v)
place_looked op.ResWord p f g v e = ap (λ s. natural v.int - length (p.places (sig_of p.pkg s).args)) e
place_looked _ p f g v e = refl

may_look : (c : Origin) (p : Program) (f g : FuncRecord) (e : Env) (m : ℕ → ℕ) (v : ValueRecord) (n : ℕ) → ((x : ℕ) → In x v.args → m (copied_in f x) ≡ m x) →
    (c ≡ result → copied_in f (slice_index v.args 0) ≡ slice_index v.args 0) → (c ≡ result → callee_of f v ≡ callee_of g (looked_through f v)) → state_of f v ≡ state_of g (looked_through f v) →
    MayBe c p g e m (looked_through f v) n → MayBe c p f e m v n
may_look computed p f g e m v n k r l d h = subst (λ ns. HasLow (op_value v.op v.int ns p.target) (bits p.target v) n) (same_numbers m (copied_in f) v.args k) h
may_look phi p f g e m v n k r l d h = h
may_look argument p f g e m v n k r l d h = h
may_look argument_word p f g e m v n k r l d h = h
may_look result p f g e m v n k r l d h =
    h
    ∙ ap (λ x. cut_result v.op.family p.target v.ty (slice_index (e.given x) (result_place v.op.family p g (looked_through f v)))) (first_name (copied_in f) v.args (r refl))
    ∙ sym (ap (λ j. cut_result v.op.family p.target v.ty (slice_index (e.given (slice_index v.args 0)) j)) (place_looked v.op.family p f g v (l refl)))
may_look address p f g e m v n k r l d h = h
may_look loaded p f g e m v n k r l d h =
    (let q : number_by loaded p g e m (looked_through f v) ≡ number_by loaded p f e m v = rw (d, first_number m (copied_in f) v.args k) refl in h ∙ ap (λ z. z % 2 ^ bits p.target v) q)
may_look checked p f g e m v n k r l d h = h ∙ first_number m (copied_in f) v.args k
may_look same p f g e m v n k r l d h = h ∙ first_number m (copied_in f) v.args k

pub looked_kept : (p : Program) (f g : FuncRecord) (b k : ℕ) (v : ValueRecord) → Look f g b k v → (e : Env) (m : ℕ → ℕ) → Possible p g e m → Possible p f e m
looked_kept p f g b k v l e m h id u d = elim (cases_eq id v.id) [
  | inr n ↦ may_alike (origin_of u.op.family) p f g e m u (m id) (l.others id u d n).state (l.others id u d n).callee (h id u (kept_named f g b k v l id u d n))
  | inl n ↦
      (let here : value_of f v.id ≡ Some v = named f v.id b k v l.numbers l.stands refl in
      let q : v ≡ u = (let z : Some v ≡ Some u = sym here ∙ (ap (value_of f) (sym n) ∙ d) in cc) in
      let P : ValueRecord → Type 0 = λ u. MayBe (origin_of u.op.family) p f e m u (m id) in
      subst P q
      (may_look (origin_of v.op.family) p f g e m v (m id)
      (λ x i. copied_number p f g b k v l e m h x (λ z. l.apart (let R : ℕ → Type 0 = λ y. In y v.args in subst R z i)))
      l.call l.own.callee l.own.state
      (h id (looked_through f v) (ap (value_of g) n ∙ looked_named f g b k v l))))
]
