-- That the checks and loads of a state end the run in the order of the schedule as in that of the meaning, unless it is wild.
use Rattle.std.proofs.Common.{◌≡◌, ◌∙◌, sym, refl, ap, subst, ℕ, ◌<◌, ◌⊎◌, inl, inr, ⊎_elim, Bool, true, false, cond, ◌&&◌, ◌||◌, List, [], ◌∷◌, ◌++◌, length, Option, None, Some, arith}
use Rattle.std.specs.Prelude.{filter, flat_map}
use Rattle.std.specs.List.{slice_get}
use Rattle.std.proofs.lemmas.Option.{none-some, same_Some}
use Rattle.bk_ops.specs.declared.types.Target.{Target}
use Rattle.bk_func.specs.Records.{ValueRecord, BlockRecord, FuncRecord}
use Rattle.bk_func.specs.Numbers.{origin_of, state_of}
use Rattle.bk_func.specs.Effects.{after_needs, checks_at, is_at, is_check, is_load, loads_at, order}
use Rattle.bk_func.specs.Meaning.{Outcome, wild, fault_at, first_fault, or_else}
use Rattle.bk_func.specs.Form.Before.{IsLoad, IsNilCheck, IsListed, Needs}
use Rattle.bk_func.specs.Form.Text.{HasBlock}
use Rattle.bk_func.proofs.Faults.{In, in-filter, first_fault-append, none_first, none_in}
use Rattle.bk_places.proofs.Elements.{to_in, in_either, in_left, in_right}
use Rattle.bk_sched.specs.Order.{Checks, Loads, checks, needed, unneeded, right}
use Rattle.bk_sched.proofs.Agreeing.{NoCopies}
use Rattle.bk_sched.proofs.Keeping.{all_scheduled, in_scheduled}
use Rattle.bk_sched.proofs.Running.{Run, Tail, Walk, acts_at_state, acts_either, against, check_in, check_origin, cut_left, end_fault, filter-append, filter_cut, finds, first_at, front_in, in_checks, in_loads, listed_in, load_in, load_origin, mid, middle, none_list, pick, place_in, tail, walk, wild_load, wild_loads}

not_both : (v : ValueRecord) → IsNilCheck v → IsLoad v → ⊥
not_both v check load = let e = sym (check_origin v check) ∙ load_origin v load in absurd cc

some_of : (ls : List ValueRecord) (u : ValueRecord) → In u ls → 0 < length ls
some_of [] u i = absurd i
some_of (x ∷ ls) u i = omega arith

last_some : (o : Option Outcome) (x : Outcome) → or_else o None ≡ Some x → o ≡ Some x
last_some None x e = absurd cc
last_some (Some y) x e = e

-- the checks and the loads of the state, each behind the loads that it needs
abbrev pub behind_needs : FuncRecord → BlockRecord → ℕ → ValueRecord → List ValueRecord
behind_needs f b s v = after_needs (length (loads_at f b s)) f b (loads_at f b s) v

abbrev pub TailAt : Target → (ℕ → ℕ) → List ℕ → FuncRecord → BlockRecord → ℕ → ValueRecord → Type 0
TailAt t m d f b s v = Tail t m d f b (loads_at f b s) (length (loads_at f b s)) v

-- where the first fault is that of a check
at_check : (f : FuncRecord) → NoCopies f → (b : BlockRecord) → HasBlock f b → (zs : List ValueRecord) → Run b zs → (s : ℕ) (t : Target) (m : ℕ → ℕ) (d : List ℕ) (v : ValueRecord) (pre post : List ValueRecord)
    → checks_at f b s ++ loads_at f b s ≡ pre ++ v ∷ post → first_fault t m d (flat_map (behind_needs f b s) pre) ≡ None → (r : TailAt t m d f b s v) → first_fault t m d r.us ≡ None → In v (checks_at f b s) → (x : Outcome)
    → fault_at t m d v ≡ Some x → (p q : List ValueRecord) → zs ≡ p ++ v ∷ q → ((u : ValueRecord) → In u p → ¬ (u.id ≡ v.id)) → Some x ≡ first_fault t m d (filter (acts_at_state f s) zs)
at_check f none b has zs run s t m d v pre post same before r quiet iv x fault p q cut other =
    sym (ap (first_fault t m d) parts ∙ (first_fault-append t m d (filter (acts_at_state f s) p) (v ∷ filter (acts_at_state f s) q)
    ∙ (ap (λ o. or_else o (or_else (fault_at t m d v) (first_fault t m d (filter (acts_at_state f s) q)))) still ∙ ap (λ o. or_else o (first_fault t m d (filter (acts_at_state f s) q))) fault)))
  where
    cv : Checks b v s
    cv = in_checks f none b has s v iv

    on : acts_at_state f s v ≡ true
    on = let (j, e) = in-filter (λ v. is_check (origin_of v.op.family) && is_at (state_of f v) s) v b.values iv in on_check (is_check (origin_of v.op.family)) (is_load (origin_of v.op.family)) (is_at (state_of f v) s) e
      where
        on_check : (a l c : Bool) → (a && c) ≡ true → ((a || l) && c) ≡ true
        on_check true l c e = e
        on_check false l c e = absurd cc

    parts : filter (acts_at_state f s) zs ≡ filter (acts_at_state f s) p ++ v ∷ filter (acts_at_state f s) q
    parts = ap (filter (acts_at_state f s)) cut ∙ (filter-append (acts_at_state f s) p (v ∷ q)
        ∙ ap (λ ys. filter (acts_at_state f s) p ++ ys) (ap (λ c. cond c (v ∷ filter (acts_at_state f s) q) (filter (acts_at_state f s) q)) on))

    listed_after : (e : ValueRecord) → In e post → ¬ IsLoad e → IsListed b v e
    listed_after e i apart = ⊎_elim
        (λ (l : In v (loads_at f b s)). absurd (not_both v cv.1 (in_loads f none b has s v l).1))
        (λ (c : (k : List ValueRecord) × (checks_at f b s ≡ pre ++ v ∷ k) × (post ≡ k ++ loads_at f b s)).
        let ie : In e c.0 = ⊎_elim
        (λ (j : In e c.0). j)
        (λ (j : In e (loads_at f b s)). absurd (apart (in_loads f none b has s e j).1))
        (in_either e c.0 (loads_at f b s) (subst (λ (ys : List ValueRecord). In e ys) c.2 i)) in
        let F = filter_cut (λ v. is_check (origin_of v.op.family) && is_at (state_of f v) s) b.values pre v c.0 c.1 in
        let back = (in-filter (λ v. is_check (origin_of v.op.family) && is_at (state_of f v) s) e F.back (subst (λ (ys : List ValueRecord). In e ys) (sym F.rest) ie)).0 in
        let (i', j', l', ei, ej) = listed_in F.front v F.back e back in
        (i', j', l', ap (λ ys. slice_get ys i') F.same ∙ ei, ap (λ ys. slice_get ys j') F.same ∙ ej))
        (cut_left (checks_at f b s) (loads_at f b s) pre v post same)

    where_is : (e : ValueRecord) → In e (checks_at f b s ++ loads_at f b s) → In e pre ⊎ (v ≡ e) ⊎ In e post
    where_is e i = in_either e pre (v ∷ post) (subst (λ (ys : List ValueRecord). In e ys) same i)

    quiet_in : (e : ValueRecord) → In e pre → fault_at t m d e ≡ None
    quiet_in e i =
        let a = tail t m d f b (loads_at f b s) (length (loads_at f b s)) e in
        end_fault t m d a.us e (ap (first_fault t m d) (sym a.same) ∙ none_in t m d (behind_needs f b s) e pre before i)

    check_calm : (e : ValueRecord) → In e p → Checks b e s → (y : Outcome) → fault_at t m d e ≡ Some y → ⊥
    check_calm e ie ce y fe = ⊎_elim
        (λ (i : In e pre). none-some y (sym (quiet_in e i) ∙ fe))
        (λ (rest : (v ≡ e) ⊎ In e post). ⊎_elim
        (λ (h : v ≡ e). other e ie (ap (λ (w : ValueRecord). w.id) (sym h)))
        (λ (i : In e post). against b zs run p v q cut e ie (right v e (checks v e s cv ce (listed_after e i (λ l. not_both e ce.1 l)))))
        rest)
        (where_is e (in_left e (checks_at f b s) (loads_at f b s) (check_in f none b has s e ce)))

    load_calm : (e : ValueRecord) → In e p → Loads b e s → (y : Outcome) → fault_at t m d e ≡ Some y → ⊥
    load_calm e ie le y fe = pick P b.values
        (λ h. against b zs run p v q cut e ie (right v e (unneeded v e s cv le (λ w cw nw. h w (to_in w b.values cw.0) (cw, nw)))))
        (λ pre' w post' eq pw h. against b zs run p v q cut e ie (right v e (needed v e w s cv le pw.0 pw.1
        (λ u cu nu (i, j, l, ei, ej).
        let place : j ≡ length pre' = run.own j (length pre') w w ej (ap (λ ys. slice_get ys (length pre')) eq ∙ middle pre' w post') refl in
        h u (front_in pre' w post' u i (omega (arith, l, place)) (sym (ap (λ ys. slice_get ys i) eq) ∙ ei)) (cu, nu))
        (listed w pw))))
      where
        P : ValueRecord → Type 0
        P w = Checks b w s × Needs b w e

        il : In e (loads_at f b s)
        il = load_in f none b has s e le

        listed : (w : ValueRecord) → P w → IsListed b v w
        listed w pw = ⊎_elim
            (λ (i : In w pre).
            let a = tail t m d f b (loads_at f b s) (length (loads_at f b s)) w in
            let none' = none_in t m d (behind_needs f b s) w pre before i in
            let us = none_first (first_fault t m d a.us) (first_fault t m d (w ∷ [])) (sym (first_fault-append t m d a.us (w ∷ [])) ∙ (ap (first_fault t m d) (sym a.same) ∙ none')) in
            absurd (none-some y (sym (a.quiet us e il (finds f b has zs run w e (to_in w b.values pw.0.0) pw.1) (some_of (loads_at f b s) e il)) ∙ fe)))
            (λ (rest : (v ≡ w) ⊎ In w post). ⊎_elim
            (λ (h : v ≡ w).
            absurd (none-some y (sym (r.quiet quiet e il (finds f b has zs run v e (to_in v b.values cv.0) (subst (λ (k : ValueRecord). Needs b k e) (sym h) pw.1)) (some_of (loads_at f b s) e il)) ∙ fe)))
            (λ (i : In w post). listed_after w i (λ l. not_both w pw.0.1 l))
            rest)
            (where_is w (in_left w (checks_at f b s) (loads_at f b s) (check_in f none b has s w pw.0)))

    calm : (e : ValueRecord) → In e p → acts_at_state f s e ≡ true → (o : Option Outcome) → fault_at t m d e ≡ o → fault_at t m d e ≡ None
    calm e ie at None fe = fe
    calm e ie at (Some y) fe =
        let inside = in_scheduled b b.values zs run.scheduled e (subst (λ (ys : List ValueRecord). In e ys) (sym cut) (in_left e p (v ∷ q) ie)) in
        absurd (⊎_elim (λ ce. check_calm e ie ce y fe) (λ le. load_calm e ie le y fe) (acts_either f none b has s e inside at))

    still : first_fault t m d (filter (acts_at_state f s) p) ≡ None
    still = none_list t m d (filter (acts_at_state f s) p) (λ e i. let (ie, at) = in-filter (acts_at_state f s) e p i in calm e ie at (fault_at t m d e) refl)

pub same_end : (f : FuncRecord) → NoCopies f → (b : BlockRecord) → HasBlock f b → (zs : List ValueRecord) → Run b zs → (s : ℕ) (t : Target) (m : ℕ → ℕ) (d : List ℕ) (o : Option Outcome) → first_fault t m d (order f b s) ≡ o
    → ((a : ℕ) × (o ≡ Some (wild a))) ⊎ (o ≡ first_fault t m d (filter (acts_at_state f s) zs))
same_end f none b has zs run s t m d None e = inr (sym (none_list t m d (filter (acts_at_state f s) zs) calm))
  where
    quiet : (v : ValueRecord) → In v (checks_at f b s ++ loads_at f b s) → fault_at t m d v ≡ None
    quiet v i =
        let a = tail t m d f b (loads_at f b s) (length (loads_at f b s)) v in
        end_fault t m d a.us v (ap (first_fault t m d) (sym a.same) ∙ none_in t m d (behind_needs f b s) v (checks_at f b s ++ loads_at f b s) e i)

    calm : (v : ValueRecord) → In v (filter (acts_at_state f s) zs) → fault_at t m d v ≡ None
    calm v i =
        let (iz, at) = in-filter (acts_at_state f s) v zs i in
        ⊎_elim
        (λ (c : Checks b v s). quiet v (in_left v (checks_at f b s) (loads_at f b s) (check_in f none b has s v c)))
        (λ (l : Loads b v s). quiet v (in_right v (checks_at f b s) (loads_at f b s) (load_in f none b has s v l)))
        (acts_either f none b has s v (in_scheduled b b.values zs run.scheduled v iz) at)
same_end f none b has zs run s t m d (Some x) e = go (first_fault t m d r.us) refl (sym (first_fault-append t m d r.us (w.v ∷ [])) ∙ (ap (first_fault t m d) (sym r.same) ∙ w.here))
  where
    w : Walk t m d (behind_needs f b s) (checks_at f b s ++ loads_at f b s) x
    w = walk t m d (behind_needs f b s) (checks_at f b s ++ loads_at f b s) x e

    r : TailAt t m d f b s w.v
    r = tail t m d f b (loads_at f b s) (length (loads_at f b s)) w.v

    checked : first_fault t m d r.us ≡ None → fault_at t m d w.v ≡ Some x → In w.v (checks_at f b s) → Some x ≡ first_fault t m d (filter (acts_at_state f s) zs)
    checked q h i =
        let inside = to_in w.v b.values (in_checks f none b has s w.v i).0 in
        let c = first_at w.v zs (all_scheduled b b.values zs run.scheduled run.alone w.v inside) in
        let there = in_scheduled b b.values zs run.scheduled c.here (subst (λ (ys : List ValueRecord). In c.here ys) (sym c.same) (mid c.here c.front c.back)) in
        let (j, ej) = place_in c.here b.values there in
        let (k, ek) = place_in w.v b.values inside in
        let place = run.own j k c.here w.v ej ek c.number in
        let is : c.here ≡ w.v = same_Some c.here w.v (sym ej ∙ (ap (slice_get b.values) place ∙ ek)) in
        at_check f none b has zs run s t m d w.v w.pre w.post w.same w.before r q i x h c.front c.back (c.same ∙ ap (λ (y : ValueRecord). c.front ++ y ∷ c.back) is) c.other

    go : (o : Option Outcome) → first_fault t m d r.us ≡ o → or_else o (or_else (fault_at t m d w.v) None) ≡ Some x → ((a : ℕ) × (Some x ≡ Some (wild a))) ⊎ (Some x ≡ first_fault t m d (filter (acts_at_state f s) zs))
    go (Some y) q h =
        let (a, is) = wild_loads t m d r.us (λ u i. load_origin u (in_loads f none b has s u (r.loads u i)).1) y q in
        inl (a, sym h ∙ ap Some is)
    go None q h =
        let here = last_some (fault_at t m d w.v) x h in
        ⊎_elim
        (λ (i : In w.v (checks_at f b s)). inr (checked q here i))
        (λ (i : In w.v (loads_at f b s)). let (a, is) = wild_load t m d w.v (load_origin w.v (in_loads f none b has s w.v i).1) x here in inl (a, ap Some is))
        (in_either w.v (checks_at f b s) (loads_at f b s) (subst (λ (ys : List ValueRecord). In w.v ys) (sym w.same) (mid w.v w.pre w.post)))
