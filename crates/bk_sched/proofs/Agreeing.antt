-- That the order of a block alone is that of its function, where no value copies memory; and that phis come first.
use Rattle.std.proofs.Common.{◌≡◌, ◌∙◌, sym, refl, ap, subst, ℕ, zero, suc, ◌+◌, ◌<◌, ◌≤◌, ◌==◌, ◌⊎◌, inl, inr, ⊎_elim, Bool, true, false, cond, not, ◌&&◌, ◌||◌, List, [], ◌∷◌, ◌++◌, Some, arith, eq-eqb, ne_eqb}
use Rattle.std.specs.Prelude.{count_by, sum_by}
use Rattle.std.specs.List.{Contains, slice_get}
use Rattle.std.proofs.lemmas.Bool.{cases_eq, cases_order, false≢true}
use Rattle.std.proofs.lemmas.List.Sums.{sum_by-cons}
use Rattle.std.proofs.lemmas.Option.{none-some, same_Some, slice_get_within, get_or_from_slice_get}
use Rattle.bk_ops.specs.Families.{is_phi}
use Rattle.bk_ops.specs.declared.family.Family.{Family}
use Rattle.bk_ops.specs.declared.family.Family.TheVariants as op
use Rattle.bk_ops.specs.declared.types.Ty.{Ty}
use Rattle.bk_ops.specs.declared.types.Ty.TheVariants.{Mem}
use Rattle.bk_func.proofs.Faults.{In}
use Rattle.bk_func.specs.declared.form.FormKind.TheVariants.{Missing, Memory, Order}
use Rattle.bk_func.specs.Records.{ValueRecord, BlockRecord, FuncRecord}
use Rattle.bk_func.specs.Numbers.{is_copy, is_mem}
use Rattle.bk_func.specs.Form.{IsFormed}
use Rattle.bk_func.specs.Form.Before as form
use Rattle.bk_func.specs.Form.Before.{IsLoad, IsNilCheck, IsResult, Needs, IsListed}
use Rattle.bk_func.specs.Form.Parts.{IsValueNumber}
use Rattle.bk_func.specs.Form.Signatures.{Setting}
use Rattle.bk_func.specs.Form.States as states
use Rattle.bk_func.specs.Form.States.{CopiesMemory, IsState}
use Rattle.bk_func.specs.Form.Text.{HasBlock, HasValue, IsPhi}
use Rattle.bk_places.proofs.Elements.{contains_at, to_in, to_contains, in_either}
use Rattle.bk_places.proofs.NamesAt.{phi_names}
use Rattle.bk_sched.specs.Order.{ComesBefore, HasOwnNumbers, Names, Precedes, StandsFor, outside, itself, copied, argument, state, checks, needed, unneeded, right, onward, is_call, are_results, is_state}
use Rattle.bk_sched.specs.Schedule.{IsReady, Scheduled, done, next, rank_by, rank_of, score_by}
use Rattle.bk_sched.proofs.Keeping.{in_scheduled}

-- a value bears the number, or none does
pub borne : (vs : List ValueRecord) (n : ℕ) → ((v : ValueRecord) × In v vs × (v.id ≡ n)) ⊎ ((v : ValueRecord) → In v vs → ¬ (v.id ≡ n))
borne [] n = inr (λ v i. elim i [ ])
borne (x ∷ xs) n = ⊎_elim
    (λ (e : x.id ≡ n). inl (x, inl refl, e))
    (λ (apart : x.id ≡ n → ⊥). ⊎_elim
    (λ (found : (v : ValueRecord) × In v xs × (v.id ≡ n)). inl (found.0, inr found.1, found.2))
    (λ (none : (v : ValueRecord) → In v xs → ¬ (v.id ≡ n)). inr (λ v i. ⊎_elim
    (λ (d : x ≡ v). λ e. apart (ap (λ (w : ValueRecord). w.id) d ∙ e))
    (λ (j : In v xs). none v j)
    i))
    (borne xs n))
    (cases_eq x.id n)

some_value : (vs : List ValueRecord) (n : ℕ) → 0 < count_by (λ v. v.id == n) vs → (v : ValueRecord) × In v vs × (v.id ≡ n)
some_value [] n l = absurd (omega (arith, l))
some_value (x ∷ xs) n l = ⊎_elim
    (λ (e : x.id ≡ n). (x, inl refl, e))
    (λ (apart : x.id ≡ n → ⊥).
    let s = sum_by-cons (λ (v : ValueRecord). cond (v.id == n) 1 0) x xs in
    let k : ◌≡◌ {A = ℕ} (cond (x.id == n) 1 0) 0 = rw (ne_eqb x.id n apart) refl in
    let (v, i, e) = some_value xs n (omega (arith, l, s, k)) in
    (v, inr i, e))
    (cases_eq x.id n)

some_block : (bs : List BlockRecord) (n : ℕ) → 0 < sum_by (λ b. count_by (λ v. v.id == n) b.values) bs → (b : BlockRecord) × (v : ValueRecord) × In b bs × In v b.values × (v.id ≡ n)
some_block [] n l = absurd (omega (arith, l))
some_block (b ∷ bs) n l = ⊎_elim
    (λ (e : count_by (λ v. v.id == n) b.values ≡ 0).
    let s = sum_by-cons (λ (b : BlockRecord). count_by (λ v. v.id == n) b.values) b bs in
    let (c, v, i, j, is) = some_block bs n (omega (arith, l, s, e)) in
    (c, v, inr i, j, is))
    (λ (some : count_by (λ v. v.id == n) b.values ≡ 0 → ⊥). let (v, j, is) = some_value b.values n (omega (arith, some)) in (b, v, inl refl, j, is))
    (cases_eq (count_by (λ v. v.id == n) b.values) 0)

numbered : (f : FuncRecord) (n : ℕ) → IsValueNumber f n → (b : BlockRecord) × (v : ValueRecord) × HasValue f b v × (v.id ≡ n)
unfolding IsValueNumber
numbered f n one =
    let (b, v, i, j, is) = some_block f.blocks n (omega (arith, one)) in
    (b, v, (to_contains b f.blocks i, to_contains v b.values j), is)

-- no two values of a block of a function in form have one number
one_counted : (vs : List ValueRecord) (n i : ℕ) (u : ValueRecord) → slice_get vs i ≡ Some u → u.id ≡ n → 0 < count_by (λ v. v.id == n) vs
one_counted [] n i u e is = absurd (none-some u e)
one_counted (x ∷ xs) n zero u e is =
    let s = sum_by-cons (λ (v : ValueRecord). cond (v.id == n) 1 0) x xs in
    let k : ◌≡◌ {A = ℕ} (cond (x.id == n) 1 0) 1 = rw (eq-eqb x.id n (ap (λ (w : ValueRecord). w.id) (same_Some x u e) ∙ is)) refl in
    omega (arith, s, k)
one_counted (x ∷ xs) n (suc i) u e is =
    let s = sum_by-cons (λ (v : ValueRecord). cond (v.id == n) 1 0) x xs in
    let l = one_counted xs n i u e is in
    omega (arith, s, l)

two_counted : (vs : List ValueRecord) (n i j : ℕ) (u v : ValueRecord) → slice_get vs i ≡ Some u → slice_get vs j ≡ Some v → u.id ≡ n → v.id ≡ n → i < j → 1 < count_by (λ v. v.id == n) vs
two_counted [] n i j u v eu ev nu nv l = absurd (none-some u eu)
two_counted (x ∷ xs) n i zero u v eu ev nu nv l = absurd (omega (arith, l))
two_counted (x ∷ xs) n zero (suc j) u v eu ev nu nv l =
    let s = sum_by-cons (λ (v : ValueRecord). cond (v.id == n) 1 0) x xs in
    let k : ◌≡◌ {A = ℕ} (cond (x.id == n) 1 0) 1 = rw (eq-eqb x.id n (ap (λ (w : ValueRecord). w.id) (same_Some x u eu) ∙ nu)) refl in
    let m = one_counted xs n j v ev nv in
    omega (arith, s, k, m)
two_counted (x ∷ xs) n (suc i) (suc j) u v eu ev nu nv l =
    let s = sum_by-cons (λ (v : ValueRecord). cond (v.id == n) 1 0) x xs in
    let m = two_counted xs n i j u v eu ev nu nv (omega (arith, l)) in
    omega (arith, s, m)

counted_in : (g : BlockRecord → ℕ) (bs : List BlockRecord) (b : BlockRecord) → In b bs → g b ≤ sum_by g bs
counted_in g [] b i = elim i [ ]
counted_in g (c ∷ bs) b (inl e) = let s = sum_by-cons g c bs in let k = ap g e in omega (arith, s, k)
counted_in g (c ∷ bs) b (inr i) = let s = sum_by-cons g c bs in let l = counted_in g bs b i in omega (arith, s, l)

not_two : (f : FuncRecord) (b : BlockRecord) → HasBlock f b → (n : ℕ) → IsValueNumber f n → (i j : ℕ) (u v : ValueRecord) → slice_get b.values i ≡ Some u → slice_get b.values j ≡ Some v → u.id ≡ n → v.id ≡ n → ¬ i < j
unfolding IsValueNumber
not_two f b has n one i j u v eu ev nu nv l =
    let two = two_counted b.values n i j u v eu ev nu nv l in
    let all = counted_in (λ (c : BlockRecord). count_by (λ v. v.id == n) c.values) f.blocks b (to_in b f.blocks has) in
    absurd (omega (arith, two, all, one))

pub own_numbers : (s : Setting) (f : FuncRecord) → IsFormed s f → (b : BlockRecord) → HasBlock f b → HasOwnNumbers b
own_numbers s f formed b has i j u v eu ev same = ⊎_elim
    (λ (is : i ≡ j). is)
    (λ (apart : (i < j) ⊎ (j < i)). absurd (⊎_elim
    (λ (l : i < j). not_two f b has u.id one i j u v eu ev refl (sym same) l)
    (λ (l : j < i). not_two f b has u.id one j i v u ev eu (sym same) refl l)
    apart))
    (cases_order i j)
  where
    one : IsValueNumber f u.id
    one = ((formed.kinds Missing b has).value u (contains_at b.values i u eu)).own

-- a function in form, none of whose values copies memory
abbrev pub NoCopies : FuncRecord → Type 0
NoCopies f = (c : BlockRecord) (v : ValueRecord) → HasValue f c v → ¬ CopiesMemory v

-- then numbers stand for themselves
pub stands_same : (f : FuncRecord) → NoCopies f → (b : BlockRecord) → HasBlock f b → (n s : ℕ) → StandsFor b n s → n ≡ s
stands_same f none b has _ _ (outside n free) = refl
stands_same f none b has _ _ (itself v inside other) = refl
stands_same f none b has _ _ (copied v n m inside is first rest) = absurd (none b v (has, inside) is)

form_same : (f : FuncRecord) → NoCopies f → (n s : ℕ) → states.StandsFor f n s → n ≡ s
form_same f none _ _ (states.itself c v has other) = refl
form_same f none _ _ (states.copied c v n m has is first rest) = absurd (none c v has is)

names_form : (s : Setting) (f : FuncRecord) → IsFormed s f → NoCopies f → (b : BlockRecord) → HasBlock f b → (v : ValueRecord) → Contains b.values v → (m : ℕ) → Names b v m → states.Names f v m
names_form s f formed none b has v inside m (k, n, at, first, stands) =
    let same = stands_same f none b has n m stands in
    let number : IsValueNumber f n =
    subst (λ (x : ℕ). IsValueNumber f x) (get_or_from_slice_get v.args k n n first) (((formed.kinds Missing b has).value v inside).args k n (slice_get_within v.args k n first)) in
    let (c, w, there, is) = numbered f n number in
    (k, n, at, first, subst (λ (x : ℕ). states.StandsFor f n x) same (subst (λ (x : ℕ). states.StandsFor f x x) is (states.itself c w there (none c w there))))

form_names : (f : FuncRecord) → NoCopies f → (b : BlockRecord) → HasBlock f b → (v : ValueRecord) (m : ℕ) → states.Names f v m → Names b v m
form_names f none b has v m (k, n, at, first, stands) =
    let same = form_same f none n m stands in (
      k,
      n,
      at,
      first,
      subst (λ (x : ℕ). StandsFor b n x) same (⊎_elim
          (λ (found : (u : ValueRecord) × In u b.values × (u.id ≡ n)).
          let inside = to_contains found.0 b.values found.1 in
          subst (λ (x : ℕ). StandsFor b x x) found.2 (itself found.0 inside (none b found.0 (has, inside))))
          (λ (free : (u : ValueRecord) → In u b.values → ¬ (u.id ≡ n)). outside n (λ (u, c, is). free u (to_in u b.values c) is))
          (borne b.values n)),
    )

-- states of memory
call_is : (f : Family) → is_call f ≡ true → f ≡ op.StaticLECall
call_is op.StaticLECall e = refl
call_is _ e = absurd (false≢true e)

results_are : (f : Family) → f ≡ op.MakeResult → are_results f ≡ true
results_are _ e = rw e refl

copy_is : (f : Family) → f ≡ op.Copy → is_copy f ≡ true
copy_is _ e = rw e refl

mem_is : (t : Ty) → is_mem t ≡ true → t ≡ Mem
mem_is Mem e = refl
mem_is _ e = absurd (false≢true e)

is_not_copy : (f : Family) → ¬ (f ≡ op.Copy) → is_copy f ≡ false
is_not_copy op.Copy other = absurd (other refl)
is_not_copy _ other = refl

are_not_results : (f : Family) → ¬ (f ≡ op.MakeResult) → are_results f ≡ false
are_not_results op.MakeResult other = absurd (other refl)
are_not_results _ other = refl

parts : (a b c d : Bool) → (a || b) && not c && not d ≡ true → ((a ≡ true) ⊎ (b ≡ true)) × (c ≡ false) × (d ≡ false)
parts true b false false e = (inl refl, refl, refl)
parts false true false false e = (inr refl, refl, refl)
parts false false c d e = absurd (false≢true e)
parts true b true d e = absurd (false≢true e)
parts true b false true e = absurd (false≢true e)
parts false true true d e = absurd (false≢true e)
parts false true false true e = absurd (false≢true e)

joins : (a b c d : Bool) → (a ≡ true) ⊎ (b ≡ true) → c ≡ false → d ≡ false → (a || b) && not c && not d ≡ true
joins true b false false h x y = refl
joins false true false false h x y = refl
joins false false c d (inl e) x y = absurd (false≢true e)
joins false false c d (inr e) x y = absurd (false≢true e)
joins a b true d h x y = absurd (false≢true (sym x))
joins a b c true h x y = absurd (false≢true (sym y))

pub state_form : (s : Setting) (f : FuncRecord) → IsFormed s f → (b : BlockRecord) → HasBlock f b → (v : ValueRecord) → Contains b.values v → is_state v ≡ true → IsState f b v
state_form s f formed b has v inside e =
    let (gives, c, d) = parts (is_call v.op.family) (is_mem v.ty) (is_copy v.op.family) (are_results v.op.family) e in (
      (has, inside),
      (λ h. false≢true (sym c ∙ copy_is v.op.family h)),
      (λ h. false≢true (sym d ∙ results_are v.op.family h)),
      ⊎_elim (λ h. inl (call_is v.op.family h)) (λ h. inr (mem_is v.ty h)) gives,
      ((formed.kinds Memory b has).value v inside).first,
    )

form_state : (f : FuncRecord) (b : BlockRecord) (v : ValueRecord) → IsState f b v → is_state v ≡ true
form_state f b v (has, other, not_results, gives, first) =
    joins (is_call v.op.family) (is_mem v.ty) (is_copy v.op.family) (are_results v.op.family)
    (⊎_elim (λ (h : v.op.family ≡ op.StaticLECall). inl (ap is_call h)) (λ (h : v.ty ≡ Mem). inr (ap is_mem h)) gives)
    (is_not_copy v.op.family other) (are_not_results v.op.family not_results)

-- so the two orders are one
comes_form : (s : Setting) (f : FuncRecord) → IsFormed s f → NoCopies f → (b : BlockRecord) → HasBlock f b → (u v : ValueRecord) → ComesBefore b u v → form.ComesBefore f b u v
comes_form s f formed none b has _ _ (argument u v taken) = form.argument u v taken
comes_form s f formed none b has _ _ (state u v m inside role names within is named) =
    form.state u v m inside role (names_form s f formed none b has u inside m names) (state_form s f formed b has v within is) (names_form s f formed none b has v within m named)
comes_form s f formed none b has _ _ (checks u v m (iu, cu, nu) (iv, cv, nv) listed) =
    form.checks u v m (iu, cu, names_form s f formed none b has u iu m nu) (iv, cv, names_form s f formed none b has v iv m nv) listed
comes_form s f formed none b has _ _ (needed u v w m (iu, cu, nu) (iv, lv, nv) (iw, cw, nw) needs first listed) =
    form.needed u v w m (iu, cu, names_form s f formed none b has u iu m nu) (iv, lv, names_form s f formed none b has v iv m nv) (iw, cw, names_form s f formed none b has w iw m nw) needs
    (λ x (ix, cx, nx) more. first x (ix, cx, form_names f none b has x m nx) more) listed
comes_form s f formed none b has _ _ (unneeded u v m (iu, cu, nu) (iv, lv, nv) free) =
    form.unneeded u v m (iu, cu, names_form s f formed none b has u iu m nu) (iv, lv, names_form s f formed none b has v iv m nv) (λ x (ix, cx, nx) more. free x (ix, cx, form_names f none b has x m nx) more)

form_comes : (s : Setting) (f : FuncRecord) → IsFormed s f → NoCopies f → (b : BlockRecord) → HasBlock f b → (u v : ValueRecord) → form.ComesBefore f b u v → ComesBefore b u v
form_comes s f formed none b has _ _ (form.argument u v taken) = argument u v taken
form_comes s f formed none b has _ _ (form.state u v m inside role names is named) =
    state u v m inside role (form_names f none b has u m names) is.0.1 (form_state f b v is) (form_names f none b has v m named)
form_comes s f formed none b has _ _ (form.checks u v m (iu, cu, nu) (iv, cv, nv) listed) =
    checks u v m (iu, cu, form_names f none b has u m nu) (iv, cv, form_names f none b has v m nv) listed
form_comes s f formed none b has _ _ (form.needed u v w m (iu, cu, nu) (iv, lv, nv) (iw, cw, nw) needs first listed) =
    needed u v w m (iu, cu, form_names f none b has u m nu) (iv, lv, form_names f none b has v m nv) (iw, cw, form_names f none b has w m nw) needs
    (λ x (ix, cx, nx) more. first x (ix, cx, names_form s f formed none b has x ix m nx) more) listed
form_comes s f formed none b has _ _ (form.unneeded u v m (iu, cu, nu) (iv, lv, nv) free) =
    unneeded u v m (iu, cu, form_names f none b has u m nu) (iv, lv, form_names f none b has v m nv) (λ x (ix, cx, nx) more. free x (ix, cx, names_form s f formed none b has x ix m nx) more)

pub precedes_form : (s : Setting) (f : FuncRecord) → IsFormed s f → NoCopies f → (b : BlockRecord) → HasBlock f b → (u v : ValueRecord) → Precedes b u v → form.Precedes f b u v
precedes_form s f formed none b has _ _ (right u v c) = form.right u v (comes_form s f formed none b has u v c)
precedes_form s f formed none b has _ _ (onward t u v c rest) = form.onward t u v (comes_form s f formed none b has t u c) (precedes_form s f formed none b has u v rest)

pub form_precedes : (s : Setting) (f : FuncRecord) → IsFormed s f → NoCopies f → (b : BlockRecord) → HasBlock f b → (u v : ValueRecord) → form.Precedes f b u v → Precedes b u v
form_precedes s f formed none b has _ _ (form.right u v c) = right u v (form_comes s f formed none b has u v c)
form_precedes s f formed none b has _ _ (form.onward t u v c rest) = onward t u v (form_comes s f formed none b has t u c) (form_precedes s f formed none b has u v rest)

pub no_round : (s : Setting) (f : FuncRecord) → IsFormed s f → NoCopies f → (b : BlockRecord) → HasBlock f b → (v : ValueRecord) → Contains b.values v → ¬ Precedes b v v
no_round s f formed none b has v inside before = (formed.kinds Order b has).value v inside (precedes_form s f formed none b has v v before)

-- phis
check_no_phi : (v : ValueRecord) → IsNilCheck v → ¬ IsPhi v
check_no_phi v check phi = ⊎_elim (λ a. absurd cc) (λ r. ⊎_elim (λ b. absurd cc) (λ c. absurd cc) r) check

load_no_phi : (v : ValueRecord) → IsLoad v → ¬ IsPhi v
load_no_phi v load phi = ⊎_elim (λ a. absurd cc) (λ r. ⊎_elim (λ b. absurd cc) (λ c. absurd cc) r) load

none_comes : (b : BlockRecord) (u v : ValueRecord) → ComesBefore b u v → ¬ IsPhi v
none_comes b _ _ (argument u v (iu, iv, other, c)) phi = other phi
none_comes b _ _ (state u v s inside role names within is (k, n, at, first, stands)) phi = phi_names v phi k at
none_comes b _ _ (checks u v s cu (iv, cv, nv) listed) phi = check_no_phi v cv phi
none_comes b _ _ (needed u v w s cu (iv, lv, nv) cw needs first listed) phi = load_no_phi v lv phi
none_comes b _ _ (unneeded u v s cu (iv, lv, nv) free) phi = load_no_phi v lv phi

none_precedes : (b : BlockRecord) (u v : ValueRecord) → Precedes b u v → ¬ IsPhi v
none_precedes b _ _ (right u v c) phi = none_comes b u v c phi
none_precedes b _ _ (onward t u v c rest) phi = none_precedes b u v rest phi

phi_is : (f : Family) → is_phi f ≡ true → f ≡ op.Phi
phi_is op.Phi e = refl
phi_is _ e = absurd (false≢true e)

rank_zero : (f : Family) (gives : Bool) → rank_by f gives ≡ 0 → f ≡ op.Phi
rank_zero f gives e = go (is_phi f) refl e
  where
    go : (b : Bool) → is_phi f ≡ b → cond b 0 (score_by f gives + 1) ≡ 0 → f ≡ op.Phi
    go true phi z = phi_is f phi
    go false other z = absurd (omega (arith, z))

phi_rank : (v : ValueRecord) → IsPhi v → rank_of v ≡ 0
phi_rank v phi = ap (λ (f : Family). rank_by f (is_state v)) phi

pub phis : (b : BlockRecord) (xs zs : List ValueRecord) → Scheduled b xs zs → (pre : List ValueRecord) (v : ValueRecord) (post : List ValueRecord) → zs ≡ pre ++ v ∷ post → (u : ValueRecord) → In u post → IsPhi u → IsPhi v
phis b _ _ (done xs none) [] v post e u i phi = absurd cc
phis b _ _ (done xs none) (p ∷ pre) v post e u i phi = absurd cc
phis b _ _ (next xs ys zs w ready front back g) (p ∷ pre) v post e u i phi =
    let q : zs ≡ pre ++ v ∷ post = cc in
    phis b (xs ++ ys) zs g pre v post q u i phi
phis b _ _ (next xs ys zs w ready front back g) [] v post e u i phi =
    let d : w ≡ v = cc in
    let q : zs ≡ post = cc in
    let inside : In u (xs ++ ys) = in_scheduled b (xs ++ ys) zs g u (subst (λ (ws : List ValueRecord). In u ws) (sym q) i) in
    let free : IsReady b (xs ++ w ∷ ys) u = λ t c before. none_precedes b t u before phi in
    let zero_u = phi_rank u phi in
    subst IsPhi d (⊎_elim
    (λ (j : In u xs). absurd (omega (arith, front u (to_contains u xs j) free, zero_u)))
    (λ (j : In u ys). rank_zero w.op.family (is_state w) (omega (arith, back u (to_contains u ys j) free, zero_u)))
    (in_either u xs ys inside))
