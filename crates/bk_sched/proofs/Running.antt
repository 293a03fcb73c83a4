-- That the checks and loads of a state end the run in the order of the schedule as in that of the meaning.
use Rattle.std.proofs.Common.{◌≡◌, ◌∙◌, sym, refl, ap, subst, ℕ, zero, suc, ◌+◌, ◌<◌, ◌≤◌, ◌==◌, ◌⊎◌, inl, inr, ⊎_elim, Bool, true, false, cond, ◌&&◌, ◌||◌, List, [], ◌∷◌, ◌++◌, length, Option, None, Some, arith, eq-eqb}
use Rattle.std.specs.Prelude.{filter, flat_map, if◌then◌else◌}
use Rattle.std.specs.List.{last_or, slice_get}
use Rattle.std.specs.Option.{option_map}
use Rattle.std.proofs.lemmas.Bool.{cases_eq, eqb-true, false≢true}
use Rattle.std.proofs.lemmas.List.{length-append}
use Rattle.std.proofs.lemmas.Option.{same_Some}
use Rattle.bk_ops.specs.Families.{is_call_result}
use Rattle.bk_ops.specs.Table.{info_of}
use Rattle.bk_ops.specs.declared.family.Family.{Family}
use Rattle.bk_ops.specs.declared.family.Family.TheVariants as op
use Rattle.bk_ops.specs.declared.family.ArmOp.TheVariants as arm
use Rattle.bk_ops.specs.declared.family.RvOp.TheVariants as rv
use Rattle.bk_ops.specs.declared.types.Target.{Target}
use Rattle.bk_ops.specs.declared.types.Ty.{Ty}
use Rattle.bk_ops.specs.declared.types.Ty.TheVariants.{Mem}
use Rattle.bk_func.specs.Records.{ValueRecord, BlockRecord, FuncRecord}
use Rattle.bk_func.specs.Numbers.{Origin, address_by, load_size, loaded, checked, copied as copied_from, is_copy, is_mem, is_memory_copy, memory_arg, memory_at, origin_of, room, state_of, value_in, value_of, values_of}
use Rattle.bk_func.specs.Effects.{after_needs, checks_at, is_at, is_check, is_load, is_phi, loads_at, needs}
use Rattle.bk_num.specs.Bytes.{is_within}
use Rattle.bk_num.specs.Memory.{data_base}
use Rattle.bk_func.specs.Meaning.{Outcome, wild, fault_at, fault_by, first_fault, or_else}
use Rattle.bk_func.specs.Form.Before.{IsLoad, IsNilCheck, Needs, takes, through}
use Rattle.bk_func.specs.Form.States.{CopiesMemory, NamesAt}
use Rattle.bk_func.specs.Form.Text.{HasBlock, IsPhi}
use Rattle.bk_func.proofs.Faults.{In, filter-in, in-filter, first_fault-append, none_first, none_second, none_both, none_in}
use Rattle.bk_func.proofs.Needs.{in_any, found_in}
use Rattle.bk_places.proofs.Elements.{to_in, to_contains, in_either, in_right}
use Rattle.bk_sched.specs.Order.{Checks, HasOwnNumbers, Loads, Names, Precedes, StandsFor, outside, itself, argument, right}
use Rattle.bk_sched.specs.Schedule.{Scheduled}
use Rattle.bk_sched.proofs.Agreeing.{NoCopies, borne, stands_same}
use Rattle.bk_sched.proofs.Keeping.{keeps, all_scheduled, short}

-- what a value does, by its origin
loads : (o : Family) → is_load (origin_of o) ≡ true → (o ≡ op.Load) ⊎ (o ≡ op.Arm arm.Load) ⊎ (o ≡ op.Rv rv.Load)
loads op.Load e = inl refl
loads (op.Arm arm.Load) e = inr (inl refl)
loads (op.Rv rv.Load) e = inr (inr refl)
loads (op.Arm _) e = absurd cc
loads (op.Rv _) e = absurd cc
loads _ e = absurd cc

nil_checks : (o : Family) → is_check (origin_of o) ≡ true → (o ≡ op.NilCheck) ⊎ (o ≡ op.Arm arm.Nil) ⊎ (o ≡ op.Rv rv.Nil)
nil_checks op.NilCheck e = inl refl
nil_checks (op.Arm arm.Nil) e = inr (inl refl)
nil_checks (op.Rv rv.Nil) e = inr (inr refl)
nil_checks (op.Arm _) e = absurd cc
nil_checks (op.Rv _) e = absurd cc
nil_checks _ e = absurd cc

pub load_origin : (v : ValueRecord) → IsLoad v → origin_of v.op.family ≡ loaded
load_origin v h = ⊎_elim (λ e. ap origin_of e) (λ r. ⊎_elim (λ e. ap origin_of e) (λ e. ap origin_of e) r) h

pub check_origin : (v : ValueRecord) → IsNilCheck v → origin_of v.op.family ≡ checked
check_origin v h = ⊎_elim (λ e. ap origin_of e) (λ r. ⊎_elim (λ e. ap origin_of e) (λ e. ap origin_of e) r) h

phis : (o : Family) → is_phi (origin_of o) ≡ true → o ≡ op.Phi
phis op.Phi e = refl
phis (op.Arm arm.Load) e = absurd cc
phis (op.Rv rv.Load) e = absurd cc
phis (op.Arm _) e = absurd cc
phis (op.Rv _) e = absurd cc
phis _ e = absurd cc

not_phi : (v : ValueRecord) → ¬ IsPhi v → is_phi (origin_of v.op.family) ≡ false
not_phi v h = go (is_phi (origin_of v.op.family)) refl
  where
    go : (t : Bool) → is_phi (origin_of v.op.family) ≡ t → t ≡ false
    go true e = absurd (h (phis v.op.family e))
    go false e = refl

-- the argument that names memory
last_got : (xs : List ℕ) (o : Option ℕ) (k n : ℕ) → k + 1 ≡ length xs → slice_get xs k ≡ Some n → last_or o xs ≡ Some n
last_got [] o k n e g = absurd cc
last_got (x ∷ []) o zero n e g = g
last_got (x ∷ []) o (suc k) n e g = absurd cc
last_got (x ∷ y ∷ ys) o zero n e g = absurd (omega (arith, e))
last_got (x ∷ y ∷ ys) o (suc k) n e g = last_got (y ∷ ys) (Some x) k n (omega (arith, e)) g

got_last : (xs : List ℕ) (n : ℕ) → last_or None xs ≡ Some n → (k : ℕ) × (k + 1 ≡ length xs) × (slice_get xs k ≡ Some n)
got_last [] n e = absurd cc
got_last (x ∷ xs) n e = go x xs n e
  where
    go : (x : ℕ) (xs : List ℕ) (n : ℕ) → last_or (Some x) xs ≡ Some n → (k : ℕ) × (k + 1 ≡ length (x ∷ xs)) × (slice_get (x ∷ xs) k ≡ Some n)
    go x [] n e = (0, omega arith, e)
    go x (y ∷ ys) n e = let r = go y ys n e in (suc r.0, omega (arith, r.1), r.2)

-- a check or a load, by the families that it may be of
abbrev pub Acts : ValueRecord → Type 0
Acts v = (origin_of v.op.family ≡ checked) ⊎ (origin_of v.op.family ≡ loaded)

acts_arg : (v : ValueRecord) → Acts v → memory_arg (origin_of v.op.family) v ≡ (if (info_of v.op).memory then last_or None v.args else None)
acts_arg v acts = ⊎_elim
    (λ (e : origin_of v.op.family ≡ checked). ap (λ o. memory_arg o v) e)
    (λ (e : origin_of v.op.family ≡ loaded). ap (λ o. memory_arg o v) e)
    acts

no_result : (f : Family) → is_call_result f ≡ true → (origin_of f ≡ checked) ⊎ (origin_of f ≡ loaded) → ⊥
no_result op.SelectN e acts = ⊎_elim (λ (h : origin_of op.SelectN ≡ checked). absurd cc) (λ (h : origin_of op.SelectN ≡ loaded). absurd cc) acts
no_result op.ResWord e acts = ⊎_elim (λ (h : origin_of op.ResWord ≡ checked). absurd cc) (λ (h : origin_of op.ResWord ≡ loaded). absurd cc) acts
no_result op.ResReg e acts = ⊎_elim (λ (h : origin_of op.ResReg ≡ checked). absurd cc) (λ (h : origin_of op.ResReg ≡ loaded). absurd cc) acts
no_result _ e acts = absurd (false≢true e)

acts_at : (v : ValueRecord) → Acts v → (k : ℕ) → NamesAt v k → ((info_of v.op).memory ≡ true) × (k + 1 ≡ length v.args)
acts_at v acts k at = ⊎_elim
    (λ (c : CopiesMemory v × (k ≡ 0)). absurd (other op.Copy c.0.0 (λ e. absurd cc) (λ e. absurd cc)))
    (λ more. ⊎_elim (λ (c : (is_call_result v.op.family ≡ true) × (k ≡ 0)). absurd (no_result v.op.family c.0 acts)) (λ last. last) more)
    at
  where
    other : (g : Family) → v.op.family ≡ g → ¬ (origin_of g ≡ checked) → ¬ (origin_of g ≡ loaded) → ⊥
    other g e a b = ⊎_elim (λ (h : origin_of v.op.family ≡ checked). a (ap origin_of (sym e) ∙ h)) (λ (h : origin_of v.op.family ≡ loaded). b (ap origin_of (sym e) ∙ h)) acts

-- where no value copies memory, numbers stand for themselves in the meaning too
in_values : (bs : List BlockRecord) (v : ValueRecord) → In v (flat_map (λ b. b.values) bs) → (b : BlockRecord) × In b bs × In v b.values
in_values [] v i = elim i [ ]
in_values (b ∷ bs) v i = ⊎_elim (λ (j : In v b.values). (b, inl refl, j)) (λ (j : In v (flat_map (λ b. b.values) bs)). let (c, k, l) = in_values bs v j in (c, inr k, l)) (in_either v b.values (flat_map (λ b. b.values) bs) i)

both_true : (a b : Bool) → (a && b) ≡ true → (a ≡ true) × (b ≡ true)
both_true true b e = (refl, e)
both_true false b e = absurd cc

copy_true : (v : ValueRecord) → is_memory_copy v ≡ true → CopiesMemory v
copy_true v e = let (a, b) = both_true (is_copy v.op.family) (is_mem v.ty) e in (fam v.op.family a, ty v.ty b)
  where
    fam : (f : Family) → is_copy f ≡ true → f ≡ op.Copy
    fam op.Copy e = refl
    fam _ e = absurd cc

    ty : (t : Ty) → is_mem t ≡ true → t ≡ Mem
    ty Mem e = refl
    ty _ e = absurd cc

memory_same : (f : FuncRecord) → NoCopies f → (k n : ℕ) → memory_at k f n ≡ n
memory_same f none zero n = refl
memory_same f none (suc k) n = go (value_of f n) refl
  where
    go : (o : Option ValueRecord) → value_of f n ≡ o → copied_from o (memory_at k f) n ≡ n
    go None e = refl
    go (Some v) e = by (is_memory_copy v) refl
      where
        by : (t : Bool) → is_memory_copy v ≡ t → copied_from (Some v) (memory_at k f) n ≡ n
        by true q =
            let (b, i, j) = in_values f.blocks v (found_in (values_of f) n v e).0 in
            absurd (none b v (to_contains b f.blocks i, to_contains v b.values j) (copy_true v q))
        by false q = rw q refl

-- what a check or a load names, by the meaning and by the block
stands_itself : (f : FuncRecord) → NoCopies f → (b : BlockRecord) → HasBlock f b → (n : ℕ) → StandsFor b n n
stands_itself f none b has n = ⊎_elim
    (λ (found : (u : ValueRecord) × In u b.values × (u.id ≡ n)).
    let inside = to_contains found.0 b.values found.1 in
    subst (λ (x : ℕ). StandsFor b x x) found.2 (itself found.0 inside (none b found.0 (has, inside))))
    (λ (free : (u : ValueRecord) → In u b.values → ¬ (u.id ≡ n)). outside n (λ (u, c, is). free u (to_in u b.values c) is))
    (borne b.values n)

named_state : (f : FuncRecord) → NoCopies f → (b : BlockRecord) → HasBlock f b → (v : ValueRecord) → Acts v → (s : ℕ) → is_at (state_of f v) s ≡ true → Names b v s
named_state f none b has v acts s e = go (memory_arg (origin_of v.op.family) v) refl e
  where
    arg : (n : ℕ) (t : Bool) → (info_of v.op).memory ≡ t → (if t then last_or None v.args else None) ≡ Some n → (k : ℕ) × NamesAt v k × (slice_get v.args k ≡ Some n)
    arg n true m d = let r = got_last v.args n d in (r.0, inr (inr (m, r.1)), r.2)
    arg n false m d = absurd cc

    go : (o : Option ℕ) → memory_arg (origin_of v.op.family) v ≡ o → is_at (option_map (memory_at (room f) f) o) s ≡ true → Names b v s
    go None q d = absurd cc
    go (Some n) q d =
        let same : n ≡ s = sym (memory_same f none (room f) n) ∙ eqb-true (memory_at (room f) f n) s d in
        let (k, at, g) = arg n (info_of v.op).memory refl (sym (acts_arg v acts) ∙ q) in
        (k, n, at, g, subst (λ (x : ℕ). StandsFor b n x) same (stands_itself f none b has n))

state_named : (f : FuncRecord) → NoCopies f → (b : BlockRecord) → HasBlock f b → (v : ValueRecord) → Acts v → (s : ℕ) → Names b v s → is_at (state_of f v) s ≡ true
state_named f none b has v acts s (k, n, at, g, stands) =
    let same = stands_same f none b has n s stands in
    let (m, l) = acts_at v acts k at in
    let arg : memory_arg (origin_of v.op.family) v ≡ Some n = acts_arg v acts ∙ (ap (λ (t : Bool). if t then last_or None v.args else None) m ∙ last_got v.args None k n l g) in
    ap (λ o. is_at (option_map (memory_at (room f) f) o) s) arg ∙ eq-eqb (memory_at (room f) f n) s (memory_same f none (room f) n ∙ same)

and_true : (a b : Bool) → a ≡ true → b ≡ true → (a && b) ≡ true
and_true true b x y = y
and_true false b x y = absurd cc

pub check_in : (f : FuncRecord) → NoCopies f → (b : BlockRecord) → HasBlock f b → (s : ℕ) (v : ValueRecord) → Checks b v s → In v (checks_at f b s)
check_in f none b has s v (inside, check, names) =
    filter-in (λ v. is_check (origin_of v.op.family) && is_at (state_of f v) s) v b.values (to_in v b.values inside)
    (and_true _ _ (ap is_check (check_origin v check)) (state_named f none b has v (inl (check_origin v check)) s names))

pub in_checks : (f : FuncRecord) → NoCopies f → (b : BlockRecord) → HasBlock f b → (s : ℕ) (v : ValueRecord) → In v (checks_at f b s) → Checks b v s
in_checks f none b has s v i =
    let (j, e) = in-filter (λ v. is_check (origin_of v.op.family) && is_at (state_of f v) s) v b.values i in
    let (a, c) = both_true (is_check (origin_of v.op.family)) (is_at (state_of f v) s) e in
    let check = nil_checks v.op.family a in
    (to_contains v b.values j, check, named_state f none b has v (inl (check_origin v check)) s c)

pub load_in : (f : FuncRecord) → NoCopies f → (b : BlockRecord) → HasBlock f b → (s : ℕ) (v : ValueRecord) → Loads b v s → In v (loads_at f b s)
load_in f none b has s v (inside, load, names) =
    filter-in (λ v. is_load (origin_of v.op.family) && is_at (state_of f v) s) v b.values (to_in v b.values inside)
    (and_true _ _ (ap is_load (load_origin v load)) (state_named f none b has v (inr (load_origin v load)) s names))

pub in_loads : (f : FuncRecord) → NoCopies f → (b : BlockRecord) → HasBlock f b → (s : ℕ) (v : ValueRecord) → In v (loads_at f b s) → Loads b v s
in_loads f none b has s v i =
    let (j, e) = in-filter (λ v. is_load (origin_of v.op.family) && is_at (state_of f v) s) v b.values i in
    let (a, c) = both_true (is_load (origin_of v.op.family)) (is_at (state_of f v) s) e in
    let load = loads v.op.family a in
    (to_contains v b.values j, load, named_state f none b has v (inr (load_origin v load)) s c)

-- lists that are cut
pub mid : (v : ValueRecord) (xs ys : List ValueRecord) → In v (xs ++ v ∷ ys)
mid v xs ys = in_right v xs (v ∷ ys) (inl refl)

record Cut (v : ValueRecord) (xs : List ValueRecord) : Type 0 where
  pub front : List ValueRecord
  pub back : List ValueRecord
  pub same : xs ≡ front ++ v ∷ back

cut_at : (v : ValueRecord) (xs : List ValueRecord) → In v xs → Cut v xs
cut_at v [] i = elim i [ ]
cut_at v (x ∷ xs) (inl e) = record { front = []; back = xs; same = ap (λ (y : ValueRecord). y ∷ xs) e }
cut_at v (x ∷ xs) (inr i) = let c = cut_at v xs i in record { front = x ∷ c.front; back = c.back; same = ap (λ ys. x ∷ ys) c.same }

-- cut where the number stands first
pub record First (v : ValueRecord) (xs : List ValueRecord) : Type 0 where
  pub front : List ValueRecord
  pub here : ValueRecord
  pub back : List ValueRecord
  pub same : xs ≡ front ++ here ∷ back
  pub number : here.id ≡ v.id
  pub other : (u : ValueRecord) → In u front → ¬ (u.id ≡ v.id)

pub first_at : (v : ValueRecord) (xs : List ValueRecord) → In v xs → First v xs
first_at v [] i = elim i [ ]
first_at v (x ∷ xs) i = ⊎_elim
    (λ (e : x.id ≡ v.id). record { front = []; here = x; back = xs; same = refl; number = e; other = λ u j. elim j [ ] })
    (λ (apart : x.id ≡ v.id → ⊥).
    let c = first_at v xs (⊎_elim (λ (e : x ≡ v). absurd (apart (ap (λ (w : ValueRecord). w.id) e))) (λ (j : In v xs). j) i) in
    record {
      front = x ∷ c.front;
      here = c.here;
      back = c.back;
      same = ap (λ ys. x ∷ ys) c.same;
      number = c.number;
      other = λ u j. ⊎_elim (λ (e : x ≡ u). λ q. apart (ap (λ (w : ValueRecord). w.id) e ∙ q)) (λ (k : In u c.front). c.other u k) j;
    })
    (cases_eq x.id v.id)

pub cut_left : (cs ls pre : List ValueRecord) (v : ValueRecord) (post : List ValueRecord) → cs ++ ls ≡ pre ++ v ∷ post → In v ls ⊎ ((q : List ValueRecord) × (cs ≡ pre ++ v ∷ q) × (post ≡ q ++ ls))
cut_left [] ls pre v post e = inl (subst (λ (zs : List ValueRecord). In v zs) (sym e) (mid v pre post))
cut_left (c ∷ cs) ls [] v post e =
    let head : c ≡ v = cc in
    let tail : cs ++ ls ≡ post = cc in
    inr (cs, ap (λ (y : ValueRecord). y ∷ cs) head, sym tail)
cut_left (c ∷ cs) ls (y ∷ pre) v post e =
    let head : c ≡ y = cc in
    let tail : cs ++ ls ≡ pre ++ v ∷ post = cc in
    ⊎_elim
    (λ (i : In v ls). inl i)
    (λ (r : (q : List ValueRecord) × (cs ≡ pre ++ v ∷ q) × (post ≡ q ++ ls)). inr (r.0, ap (λ zs. c ∷ zs) r.1 ∙ ap (λ (w : ValueRecord). w ∷ (pre ++ v ∷ r.0)) head, r.2))
    (cut_left cs ls pre v post tail)

pub record Filtered (t : ValueRecord → Bool) (xs : List ValueRecord) (v : ValueRecord) (q : List ValueRecord) : Type 0 where
  pub front : List ValueRecord
  pub back : List ValueRecord
  pub same : xs ≡ front ++ v ∷ back
  pub rest : filter t back ≡ q

pub filter_cut : (t : ValueRecord → Bool) (xs pre : List ValueRecord) (v : ValueRecord) (q : List ValueRecord) → filter t xs ≡ pre ++ v ∷ q → Filtered t xs v q
filter_cut t [] [] v q e = absurd cc
filter_cut t [] (y ∷ pre) v q e = absurd cc
filter_cut t (x ∷ xs) pre v q e = go (t x) pre e (λ pre' d. filter_cut t xs pre' v q d)
  where
    more : Filtered t xs v q → Filtered t (x ∷ xs) v q
    more c = record { front = x ∷ c.front; back = c.back; same = ap (λ ys. x ∷ ys) c.same; rest = c.rest }

    go : (b : Bool) (pre : List ValueRecord) → cond b (x ∷ filter t xs) (filter t xs) ≡ pre ++ v ∷ q → ((pre' : List ValueRecord) → filter t xs ≡ pre' ++ v ∷ q → Filtered t xs v q) → Filtered t (x ∷ xs) v q
    go true [] d k =
        let head : x ≡ v = cc in
        let tail : filter t xs ≡ q = cc in
        record { front = []; back = xs; same = ap (λ (y : ValueRecord). y ∷ xs) head; rest = tail }
    go true (y ∷ pre) d k = let tail : filter t xs ≡ pre ++ v ∷ q = cc in more (k pre tail)
    go false pre d k = more (k pre d)

pub filter-append : (t : ValueRecord → Bool) (xs ys : List ValueRecord) → filter t (xs ++ ys) ≡ filter t xs ++ filter t ys
filter-append t [] ys = refl
filter-append t (x ∷ xs) ys = go (t x) (filter-append t xs ys)
  where
    go : (b : Bool) → filter t (xs ++ ys) ≡ filter t xs ++ filter t ys → cond b (x ∷ filter t (xs ++ ys)) (filter t (xs ++ ys)) ≡ cond b (x ∷ filter t xs) (filter t xs) ++ filter t ys
    go true rest = ap (λ zs. x ∷ zs) rest
    go false rest = rest

pub middle : (P : List ValueRecord) (v : ValueRecord) (Q : List ValueRecord) → slice_get (P ++ v ∷ Q) (length P) ≡ Some v
middle [] v Q = refl
middle (y ∷ P) v Q = middle P v Q

pub place_in : (x : ValueRecord) (Q : List ValueRecord) → In x Q → (k : ℕ) × (slice_get Q k ≡ Some x)
place_in x [] i = elim i [ ]
place_in x (y ∷ Q) (inl e) = (0, ap Some e)
place_in x (y ∷ Q) (inr i) = let (k, e) = place_in x Q i in (suc k, e)

pub listed_in : (P : List ValueRecord) (v : ValueRecord) (Q : List ValueRecord) (x : ValueRecord) → In x Q → (i j : ℕ) × i < j × (slice_get (P ++ v ∷ Q) i ≡ Some v) × (slice_get (P ++ v ∷ Q) j ≡ Some x)
listed_in [] v Q x i = let (k, e) = place_in x Q i in (0, suc k, omega arith, refl, e)
listed_in (y ∷ P) v Q x i = let (a, c, l, ea, ec) = listed_in P v Q x i in (suc a, suc c, omega (arith, l), ea, ec)

pub front_in : (P : List ValueRecord) (v : ValueRecord) (Q : List ValueRecord) (x : ValueRecord) (i : ℕ) → i < length P → slice_get (P ++ v ∷ Q) i ≡ Some x → In x P
front_in [] v Q x i l e = absurd (omega (arith, l))
front_in (y ∷ P) v Q x zero l e = inl (same_Some y x e)
front_in (y ∷ P) v Q x (suc i) l e = inr (front_in P v Q x i (omega (arith, l)) e)

-- the first of which a fact holds, or none, where there must not be either
pub pick : (P : ValueRecord → Type 0) (xs : List ValueRecord) → (((x : ValueRecord) → In x xs → ¬ P x) → ⊥)
    → ((pre : List ValueRecord) (w : ValueRecord) (post : List ValueRecord) → xs ≡ pre ++ w ∷ post → P w → ((y : ValueRecord) → In y pre → ¬ P y) → ⊥) → ⊥
pick P [] none some = none (λ x i. elim i [ ])
pick P (x ∷ xs) none some =
    let not_x : ¬ P x = λ px. some [] x xs refl px (λ y i. elim i [ ]) in
    pick P xs
    (λ h. none (λ y i. ⊎_elim (λ (e : x ≡ y). subst (λ (w : ValueRecord). ¬ P w) e not_x) (λ (j : In y xs). h y j) i))
    (λ pre w post e pw h. some (x ∷ pre) w post (ap (λ ys. x ∷ ys) e) pw (λ y i. ⊎_elim (λ (d : x ≡ y). subst (λ (u : ValueRecord). ¬ P u) d not_x) (λ (j : In y pre). h y j) i))

-- what is needed the meaning finds: no deeper than the places in the schedule
found_none : (vs : List ValueRecord) (u : ValueRecord) → In u vs → value_in vs u.id ≡ None → ⊥
found_none [] u i e = i
found_none (x ∷ xs) u i e = go (x.id == u.id) refl e (λ j d. found_none xs u j d)
  where
    go : (t : Bool) → (x.id == u.id) ≡ t → cond t (Some x) (value_in xs u.id) ≡ None → (In u xs → value_in xs u.id ≡ None → ⊥) → ⊥
    go true q d rest = absurd cc
    go false q d rest = ⊎_elim
        (λ (h : x ≡ u). false≢true (sym q ∙ eq-eqb x.id u.id (ap (λ (w : ValueRecord). w.id) h)))
        (λ (j : In u xs). rest j d)
        i

found_own : (b : BlockRecord) → HasOwnNumbers b → (u : ValueRecord) → In u b.values → value_in b.values u.id ≡ Some u
found_own b own u i = go (value_in b.values u.id) refl
  where
    go : (o : Option ValueRecord) → value_in b.values u.id ≡ o → value_in b.values u.id ≡ Some u
    go None e = absurd (found_none b.values u i e)
    go (Some w) e =
        let (j, same) = found_in b.values u.id w e in
        let (p, ep) = place_in w b.values j in
        let (q, eq) = place_in u b.values i in
        let place : p ≡ q = own p q w u ep eq same in
        e ∙ (sym ep ∙ (ap (slice_get b.values) place ∙ eq))

or_left : (a b : Bool) → a ≡ true → (a || b) ≡ true
or_left true b e = refl
or_left false b e = absurd cc

or_right : (a b : Bool) → b ≡ true → (a || b) ≡ true
or_right true b e = refl
or_right false b e = e

test_here : (k : ℕ) (b : BlockRecord) (u : ValueRecord) (n a : ℕ) → is_phi (origin_of u.op.family) ≡ false → In a u.args → (a == n || needs k b (value_in b.values a) n) ≡ true → needs (suc k) b (Some u) n ≡ true
unfolding needs
test_here k b u n a p i e = rw p (in_any (λ a. a == n || needs k b (value_in b.values a) n) u.args a i e)

-- a schedule of a block in which no value precedes itself
pub record Run (b : BlockRecord) (zs : List ValueRecord) : Type 0 where
  pub own : HasOwnNumbers b
  pub alone : (v : ValueRecord) → In v b.values → ¬ Precedes b v v
  pub scheduled : Scheduled b b.values zs

-- nothing in front of a value comes after it
pub against : (b : BlockRecord) (zs : List ValueRecord) → Run b zs → (p : List ValueRecord) (v : ValueRecord) (q : List ValueRecord) → zs ≡ p ++ v ∷ q → (e : ValueRecord) → In e p → ¬ Precedes b v e
against b zs run p v q same e i =
    let c = cut_at e p i in
    let whole : zs ≡ c.front ++ e ∷ (c.back ++ v ∷ q) = same ∙ (ap (λ ys. ys ++ v ∷ q) c.same ∙ joined c.front (e ∷ c.back) (v ∷ q)) in
    keeps b b.values zs run.scheduled c.front e (c.back ++ v ∷ q) whole v (mid v c.back q)
  where
    joined : (xs ys zs : List ValueRecord) → (xs ++ ys) ++ zs ≡ xs ++ (ys ++ zs)
    joined [] ys zs = refl
    joined (x ∷ xs) ys zs = ap (λ ws. x ∷ ws) (joined xs ys zs)

true_needs : (b : BlockRecord) (zs : List ValueRecord) → Run b zs → (k : ℕ) (v t : ValueRecord) → Needs b v t → (pre post : List ValueRecord) → zs ≡ pre ++ v ∷ post → length pre < k → needs k b (Some v) t.id ≡ true
true_needs b zs run zero v t n pre post same l = absurd (omega (arith, l))
true_needs b zs run (suc k) _ _ (takes u v taken) pre post same l =
    test_here k b v u.id u.id (not_phi v taken.2) (to_in u.id v.args taken.3) (or_left (u.id == u.id) (needs k b (value_in b.values u.id) u.id) (eq-eqb u.id u.id refl))
true_needs b zs run (suc k) _ _ (through t u v taken rest) pre post same l =
    let iu = to_in u b.values taken.0 in
    let before = right u v (argument u v taken) in
    let inside : In u (pre ++ v ∷ post) = subst (λ (ws : List ValueRecord). In u ws) same (all_scheduled b b.values zs run.scheduled run.alone u iu) in
    let front : In u pre = ⊎_elim
    (λ (j : In u pre). j)
    (λ (j : In u (v ∷ post)). ⊎_elim
    (λ (e : v ≡ u). absurd (run.alone u iu (subst (λ (w : ValueRecord). Precedes b u w) e before)))
    (λ (i : In u post). absurd (keeps b b.values zs run.scheduled pre v post same u i before))
    j)
    (in_either u pre (v ∷ post) inside) in
    let c = cut_at u pre front in
    let whole : zs ≡ c.front ++ u ∷ (c.back ++ v ∷ post) = same ∙ (ap (λ ys. ys ++ v ∷ post) c.same ∙ joined c.front (u ∷ c.back) (v ∷ post)) in
    let size : length pre ≡ length c.front + suc (length c.back) = ap length c.same ∙ length-append c.front (u ∷ c.back) in
    let more = true_needs b zs run k u t rest c.front (c.back ++ v ∷ post) whole (omega (arith, l, size)) in
    test_here k b v t.id u.id (not_phi v taken.2) (to_in u.id v.args taken.3)
    (or_right (u.id == t.id) (needs k b (value_in b.values u.id) t.id) (ap (λ (o : Option ValueRecord). needs k b o t.id) (found_own b run.own u iu) ∙ more))
  where
    joined : (xs ys zs : List ValueRecord) → (xs ++ ys) ++ zs ≡ xs ++ (ys ++ zs)
    joined [] ys zs = refl
    joined (x ∷ xs) ys zs = ap (λ ws. x ∷ ws) (joined xs ys zs)

room_for : (bs : List BlockRecord) (b : BlockRecord) → In b bs → length b.values ≤ length (flat_map (λ b. b.values) bs)
room_for [] b i = elim i [ ]
room_for (c ∷ bs) b i =
    let s = length-append c.values (flat_map (λ (b : BlockRecord). b.values) bs) in
    ⊎_elim
    (λ (e : c ≡ b). let k = ap (λ (d : BlockRecord). length d.values) e in omega (arith, s, k))
    (λ (j : In b bs). let l = room_for bs b j in omega (arith, s, l))
    i

pub finds : (f : FuncRecord) (b : BlockRecord) → HasBlock f b → (zs : List ValueRecord) → Run b zs → (v t : ValueRecord) → In v b.values → Needs b v t → needs (room f) b (Some v) t.id ≡ true
finds f b has zs run v t i n =
    let c = cut_at v zs (all_scheduled b b.values zs run.scheduled run.alone v i) in
    let size : length zs ≡ length c.front + suc (length c.back) = ap length c.same ∙ length-append c.front (v ∷ c.back) in
    let a = short b b.values zs run.scheduled in
    let r = room_for f.blocks b (to_in b f.blocks has) in
    true_needs b zs run (room f) v t n c.front c.back c.same (omega (arith, size, a, r))

-- faults of loads, and of lists
pub wild_load : (t : Target) (m : ℕ → ℕ) (d : List ℕ) (v : ValueRecord) → origin_of v.op.family ≡ loaded → (x : Outcome) → fault_at t m d v ≡ Some x → (a : ℕ) × (x ≡ wild a)
wild_load t m d v o x e = go (is_within data_base d (load_size t v.ty v.op v.op.family) (address_by t v m)) (sym (ap (λ (r : Origin). fault_by r t m d v) o) ∙ e)
  where
    go : (b : Bool) → (if b then None else Some (wild (address_by t v m))) ≡ Some x → (a : ℕ) × (x ≡ wild a)
    go true q = absurd cc
    go false q = (address_by t v m, sym (same_Some (wild (address_by t v m)) x q))

pub wild_loads : (t : Target) (m : ℕ → ℕ) (d : List ℕ) (us : List ValueRecord) → ((u : ValueRecord) → In u us → origin_of u.op.family ≡ loaded) → (x : Outcome) → first_fault t m d us ≡ Some x → (a : ℕ) × (x ≡ wild a)
wild_loads t m d [] all x e = absurd cc
wild_loads t m d (u ∷ us) all x e = go (fault_at t m d u) refl e (λ q. wild_loads t m d us (λ w i. all w (inr i)) x q)
  where
    go : (o : Option Outcome) → fault_at t m d u ≡ o → or_else o (first_fault t m d us) ≡ Some x → (first_fault t m d us ≡ Some x → (a : ℕ) × (x ≡ wild a)) → (a : ℕ) × (x ≡ wild a)
    go None q r rest = rest r
    go (Some y) q r rest = wild_load t m d u (all u (inl refl)) x (q ∙ r)

pub none_list : (t : Target) (m : ℕ → ℕ) (d : List ℕ) (vs : List ValueRecord) → ((v : ValueRecord) → In v vs → fault_at t m d v ≡ None) → first_fault t m d vs ≡ None
none_list t m d [] all = refl
none_list t m d (v ∷ vs) all = none_both _ _ (all v (inl refl)) (none_list t m d vs (λ u i. all u (inr i)))

pub end_fault : (t : Target) (m : ℕ → ℕ) (d : List ℕ) (us : List ValueRecord) (v : ValueRecord) → first_fault t m d (us ++ v ∷ []) ≡ None → fault_at t m d v ≡ None
end_fault t m d us v e =
    none_first (fault_at t m d v) None (none_second (first_fault t m d us) (or_else (fault_at t m d v) None) (sym (first_fault-append t m d us (v ∷ [])) ∙ e))

-- a value behind the loads that it needs
pub record Tail (t : Target) (m : ℕ → ℕ) (d : List ℕ) (f : FuncRecord) (b : BlockRecord) (ls : List ValueRecord) (k : ℕ) (v : ValueRecord) : Type 0 where
  pub us : List ValueRecord
  pub same : after_needs k f b ls v ≡ us ++ v ∷ []
  pub loads : (u : ValueRecord) → In u us → In u ls
  pub quiet : first_fault t m d us ≡ None → (u : ValueRecord) → In u ls → needs (room f) b (Some v) u.id ≡ true → 0 < k → fault_at t m d u ≡ None

in_flat : (h : ValueRecord → List ValueRecord) (xs : List ValueRecord) (u : ValueRecord) → In u (flat_map h xs) → (x : ValueRecord) × In x xs × In u (h x)
in_flat h [] u i = elim i [ ]
in_flat h (x ∷ xs) u i = ⊎_elim (λ (j : In u (h x)). (x, inl refl, j)) (λ (j : In u (flat_map h xs)). let (y, k, l) = in_flat h xs u j in (y, inr k, l)) (in_either u (h x) (flat_map h xs) i)

pub tail : (t : Target) (m : ℕ → ℕ) (d : List ℕ) (f : FuncRecord) (b : BlockRecord) (ls : List ValueRecord) (k : ℕ) (v : ValueRecord) → Tail t m d f b ls k v
unfolding after_needs
tail t m d f b ls zero v = record { us = []; same = refl; loads = λ u i. elim i [ ]; quiet = λ e u i n l. absurd (omega (arith, l)) }
tail t m d f b ls (suc k) v = record {
  us = flat_map (after_needs k f b ls) (filter (λ u. needs (room f) b (Some v) u.id) ls);
  same = refl;
  loads = λ u i.
      let (w, j, l) = in_flat (after_needs k f b ls) (filter (λ u. needs (room f) b (Some v) u.id) ls) u i in
      let inside = (in-filter (λ u. needs (room f) b (Some v) u.id) w ls j).0 in
      let r = tail t m d f b ls k w in
      ⊎_elim
      (λ (p : In u r.us). r.loads u p)
      (λ (p : In u (w ∷ [])). ⊎_elim (λ (e : w ≡ u). subst (λ (x : ValueRecord). In x ls) e inside) (λ (z : In u []). elim z [ ]) p)
      (in_either u r.us (w ∷ []) (subst (λ (ws : List ValueRecord). In u ws) r.same l));
  quiet = λ e u i n l.
      let r = tail t m d f b ls k u in
      let none = none_in t m d (after_needs k f b ls) u (filter (λ u. needs (room f) b (Some v) u.id) ls) e (filter-in (λ u. needs (room f) b (Some v) u.id) u ls i n) in
      end_fault t m d r.us u (ap (first_fault t m d) (sym r.same) ∙ none);
}

-- the first of several lists in which there is a fault
pub record Walk (t : Target) (m : ℕ → ℕ) (d : List ℕ) (h : ValueRecord → List ValueRecord) (xs : List ValueRecord) (x : Outcome) : Type 0 where
  pub pre : List ValueRecord
  pub v : ValueRecord
  pub post : List ValueRecord
  pub same : xs ≡ pre ++ v ∷ post
  pub before : first_fault t m d (flat_map h pre) ≡ None
  pub here : first_fault t m d (h v) ≡ Some x

pub walk : (t : Target) (m : ℕ → ℕ) (d : List ℕ) (h : ValueRecord → List ValueRecord) (xs : List ValueRecord) (x : Outcome) → first_fault t m d (flat_map h xs) ≡ Some x → Walk t m d h xs x
walk t m d h [] x e = absurd cc
walk t m d h (y ∷ ys) x e = go (first_fault t m d (h y)) refl (sym (first_fault-append t m d (h y) (flat_map h ys)) ∙ e) (λ q. walk t m d h ys x q)
  where
    go : (o : Option Outcome) → first_fault t m d (h y) ≡ o → or_else o (first_fault t m d (flat_map h ys)) ≡ Some x → (first_fault t m d (flat_map h ys) ≡ Some x → Walk t m d h ys x) → Walk t m d h (y ∷ ys) x
    go None q r k =
        let w = k r in
        record {
          pre = y ∷ w.pre;
          v = w.v;
          post = w.post;
          same = ap (λ zs. y ∷ zs) w.same;
          before = first_fault-append t m d (h y) (flat_map h w.pre) ∙ none_both _ _ q w.before;
          here = w.here;
        }
    go (Some z) q r k = record { pre = []; v = y; post = ys; same = refl; before = refl; here = q ∙ r }

-- the checks and loads of the state among values
abbrev pub acts_at_state : FuncRecord → ℕ → ValueRecord → Bool
acts_at_state f s v = (is_check (origin_of v.op.family) || is_load (origin_of v.op.family)) && is_at (state_of f v) s

pub acts_either : (f : FuncRecord) → NoCopies f → (b : BlockRecord) → HasBlock f b → (s : ℕ) (v : ValueRecord) → In v b.values → acts_at_state f s v ≡ true → Checks b v s ⊎ Loads b v s
acts_either f none b has s v i e = go (both_true (is_check (origin_of v.op.family) || is_load (origin_of v.op.family)) (is_at (state_of f v) s) e)
  where
    pair : (a c : Bool) → (a || c) ≡ true → (a ≡ true) ⊎ (c ≡ true)
    pair true c q = inl refl
    pair false c q = inr q

    go : ((is_check (origin_of v.op.family) || is_load (origin_of v.op.family)) ≡ true) × (is_at (state_of f v) s ≡ true) → Checks b v s ⊎ Loads b v s
    go (acts, at) = ⊎_elim
        (λ (c : is_check (origin_of v.op.family) ≡ true). let check = nil_checks v.op.family c in inl (to_contains v b.values i, check, named_state f none b has v (inl (check_origin v check)) s at))
        (λ (l : is_load (origin_of v.op.family) ≡ true). let load = loads v.op.family l in inr (to_contains v b.values i, load, named_state f none b has v (inr (load_origin v load)) s at))
        (pair (is_check (origin_of v.op.family)) (is_load (origin_of v.op.family)) acts)
