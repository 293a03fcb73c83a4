-- A run comes to what the function means.
use Rattle.std.proofs.Common.{◌≡◌, ℕ, suc, ◌+◌, ◌-◌, ◌<◌, refl, ap, sym, ◌∙◌, subst, arith, inl, inr, List, [], length, Option, Some, None, Bool, true, false}
use Rattle.std.specs.Prelude.{slice_get, slice_index, nat_lt, if◌then◌else◌, MatchOption}
use Rattle.std.proofs.lemmas.Bool.{lt-ltb}
use Rattle.bk_ops.specs.declared.types.Target.{Target}
use Rattle.bk_func.specs.Records.{FuncRecord, PackageRecord}
use Rattle.bk_func.specs.Numbers.{Program}
use Rattle.bk_func.specs.Words.{fitted}
use Rattle.bk_func.specs.Symbols.{symbol_of}
use Rattle.bk_ops.specs.declared.types.Ty.{Ty}
use Rattle.bk_func.specs.Meaning.{Outcome, trapped, going, returned, Run, stops, begun, run, meaning}
use Rattle.bk_mean.specs.Eval.{EntersNone, end_of_none, fitted_outcome, AreFormed, AreInForm}
use Rattle.bk_mean.specs.Running.{Held, top, stack_left, AreReady, NoneReady, Starts, Calls, Opens, Takes, Begun, RunsTo, spent, enters, calls, fails, traps, wilds, returns, RunsAll}
use Rattle.bk_mean.specs.declared.machine.Activation.{Activation as Active}
use Rattle.bk_mean.specs.declared.ready.Ready.{Ready}
use Rattle.bk_mean.specs.declared.symbols.Callee.{Callee}
use Rattle.bk_mean.specs.declared.symbols.Callee.TheVariants.{Func, PanicDivide, PanicShift, Missing}
use Rattle.bk_mean.specs.declared.turn.Next.TheVariants as next
use Rattle.std.proofs.lemmas.Option.{slice_get_within, get_or_from_slice_get}
use Rattle.bk_func.specs.Form.{IsFormed, strict}
use Rattle.bk_func.specs.Form.Signatures.{Setting, whole}
use Rattle.bk_mean.proofs.Learning.{learnt_ready}
use Rattle.bk_mean.proofs.Entered.{begins, ends, meaning_is, enters_none}
use Rattle.bk_mean.proofs.Stacking.{Learnt, Heads, Calling}
use Rattle.bk_mean.proofs.Moving.{get_there}
use Rattle.bk_mean.proofs.Advancing.{snoc_top, advanced_so}
use Rattle.bk_mean.proofs.Starting.{callee_there}
use Rattle.bk_mean.proofs.Entering.{heads_within, heads_spent, calling_traps, calling_full, calling_begins, calling_takes, starts_full, starts_heads}

-- what is ready is learnt
abbrev pub Learns : Program → Type 0
Learns p = (rs : List (Option Ready)) → AreReady p.pkg rs → (i : ℕ) (f : FuncRecord) (r : Ready) → slice_get p.pkg.funcs i ≡ Some f → slice_get rs i ≡ Some (Some r) → Learnt p rs i f r

module _ (p : Program) (learns : Learns p) (start n : ℕ) (rs qs : List (Option Ready)) (ready : AreReady p.pkg rs) (b c : Held) (r : Run (List ℕ)) where
  module _ (i : ℕ) (on_words : Bool) (q : Calling p rs n b r (Func i) on_words) (trap : Option ℕ) (starts : Starts p.target p.pkg p.frames i start on_words rs qs b c trap) where
    there : i < length p.pkg.funcs
    there = callee_there p.pkg (symbol_of q.frame.value.aux) i (sym q.callee)

    func : (f : FuncRecord) × (slice_get p.pkg.funcs i ≡ Some f)
    func = get_there p.pkg.funcs i there

    stack_is : stack_left (top b.calls) start ≡ q.top.stack
    stack_is = ap (λ (cs : List Active). stack_left (top cs) start) q.has_calls ∙ ap (λ (o : Option Active). stack_left o start) (snoc_top q.calls q.top)

    full_or : (t : Bool) → nat_lt (stack_left (top b.calls) start) (slice_index p.frames i) ≡ t → nat_lt q.top.stack (slice_index p.frames i) ≡ t
    full_or t e = ap (λ s. nat_lt s (slice_index p.frames i)) (sym stack_is) ∙ e

    -- a call that traps
    pub call_fails : (k : ℕ) → trap ≡ Some k → r ≡ stops (trapped k) c.window
    call_fails k e = go (nat_lt (stack_left (top b.calls) start) (slice_index p.frames i)) refl
      where
        go : (t : Bool) → nat_lt (stack_left (top b.calls) start) (slice_index p.frames i) ≡ t → r ≡ stops (trapped k) c.window
        go true l =
            let s = starts.full l in
            let d : 5 ≡ k = (let z = sym s.0 ∙ e in cc) in
            calling_full p rs n b r (Func i) on_words q i refl func.0 func.1 (full_or true l) ∙ ap (λ d. stops (trapped 5) d) (sym s.1) ∙ ap (λ j. stops (trapped j) c.window) d
        go false l = absurd (let z = sym (starts.room l) ∙ e in cc)

    -- a call that begins
    pub call_begins : trap ≡ None → Heads p qs n c r
    call_begins e = go (nat_lt (stack_left (top b.calls) start) (slice_index p.frames i)) refl
      where
        by_words : (t : Bool) → on_words ≡ t → nat_lt (stack_left (top b.calls) start) (slice_index p.frames i) ≡ false → (rf : Ready) → slice_get qs i ≡ Some (Some rf) →
            Opens i func.0.sig rf (stack_left (top b.calls) start - slice_index p.frames i) on_words b c → Heads p qs n c r
        by_words t w l rf got opens = opened t w (let P : Bool → Type 0 = λ z. Takes z (length func.0.sig.args) b opens.taken in subst P w opens.takes) (let P : ℕ → Type 0 = λ s. Begun i (length rf.values.items) (s - slice_index p.frames i) opens.taken c in subst P stack_is opens.begun)
          where
            learnt : Learnt p qs i func.0 rf
            learnt = learns qs (starts.ready ready) i func.0 rf func.1 got

            opened : (t : Bool) → on_words ≡ t → Takes t (length func.0.sig.args) b opens.taken → Begun i (length rf.values.items) (q.top.stack - slice_index p.frames i) opens.taken c → Heads p qs n c r
            opened true w takes its = calling_takes p rs n b r (Func i) on_words q i refl func.0 func.1 qs starts.grows rf learnt (full_or false l) w opens.taken c takes its
            opened false w same its =
                calling_begins p rs n b r (Func i) on_words q i refl func.0 func.1 qs starts.grows rf learnt (full_or false l) w c
                (let P : Held → Type 0 = λ z. Begun i (length rf.values.items) (q.top.stack - slice_index p.frames i) z c in subst P same its)

        go : (t : Bool) → nat_lt (stack_left (top b.calls) start) (slice_index p.frames i) ≡ t → Heads p qs n c r
        go true l = absurd (let z = sym (starts.full l).0 ∙ e in cc)
        go false l =
            let there_now = starts.there l (let s = ready.size in let k = there in omega (arith, s, k)) in
            by_words on_words refl l there_now.0 there_now.1 (starts.opens func.0 there_now.0 l func.1 there_now.1)

  -- what is called traps
  pub callee_fails : (what : Callee) (on_words : Bool) → Calling p rs n b r what on_words → (k : ℕ) → Calls p.target p.pkg p.frames start what on_words rs qs b c (Some k) → r ≡ stops (trapped k) c.window
  callee_fails (Func i) w q k s = call_fails i w q (Some k) (s (callee_there p.pkg (symbol_of q.frame.value.aux) i (sym q.callee))) k refl
  callee_fails PanicDivide w q k s = let e : k ≡ 3 = (let z = s.0 in cc) in calling_traps p rs n b r PanicDivide w q k (inl (refl, e)) ∙ ap (λ d. stops (trapped k) d) (sym s.1)
  callee_fails PanicShift w q k s = let e : k ≡ 4 = (let z = s.0 in cc) in calling_traps p rs n b r PanicShift w q k (inr (inl (refl, e))) ∙ ap (λ d. stops (trapped k) d) (sym s.1)
  callee_fails Missing w q k s = let e : k ≡ 6 = (let z = s.0 in cc) in calling_traps p rs n b r Missing w q k (inr (inr (refl, e))) ∙ ap (λ d. stops (trapped k) d) (sym s.1)

  -- or begins
  pub callee_begins : (what : Callee) (on_words : Bool) → Calling p rs n b r what on_words → Calls p.target p.pkg p.frames start what on_words rs qs b c None → Heads p qs n c r × AreReady p.pkg qs
  callee_begins (Func i) w q s = let k = s (callee_there p.pkg (symbol_of q.frame.value.aux) i (sym q.callee)) in (call_begins i w q None k refl, k.ready ready)
  callee_begins PanicDivide w q s = absurd (let z = s.0 in cc)
  callee_begins PanicShift w q s = absurd (let z = s.0 in cc)
  callee_begins Missing w q s = absurd (let z = s.0 in cc)

one_more : (p : Program) (rs : List (Option Ready)) (m n : ℕ) (a : Held) (r : Run (List ℕ)) → m ≡ n + 1 → Heads p rs m a r → Heads p rs (suc n) a r
one_more p rs m n a r e h = (let P : ℕ → Type 0 = λ z. Heads p rs z a r in let k : m ≡ suc n = omega (arith, e) in subst P k h)

-- a run from the entry of a block
pub runs_so : (p : Program) → Learns p → (tys : List Ty) (start n : ℕ) (rs : List (Option Ready)) (a : Held) (o : Outcome) (w : List ℕ) → RunsTo p.target p.pkg p.frames start n rs a o w → AreReady p.pkg rs → (r : Run (List ℕ)) → Heads p rs n a r →
    ends p tys r ≡ (fitted_outcome p.target (p.places tys) o, w)
runs_so p learns tys start _ rs a _ _ (spent _ _) ready r h = ap (ends p tys) (heads_spent p rs a r h)
runs_so p learns tys start m rs a o w (enters _ n _ _ b _ _ e adv rest) ready r h =
    runs_so p learns tys start n rs b o w rest ready r (advanced_so p rs a b next.Enter adv n r (heads_within p rs n a r (one_more p rs m n a r e h)))
runs_so p learns tys start m rs a o w (calls _ n _ qs _ b c what words _ _ e adv starts rest) ready r h =
    let q = callee_begins p learns start n rs qs ready b c r what words (advanced_so p rs a b (next.Call what words) adv n r (heads_within p rs n a r (one_more p rs m n a r e h))) starts in
    runs_so p learns tys start n qs c o w rest q.1 r q.0
runs_so p learns tys start m rs a _ _ (fails _ n _ qs _ b c what words trap e adv starts) ready r h =
    ap (ends p tys) (callee_fails p learns start n rs qs ready b c r what words (advanced_so p rs a b (next.Call what words) adv n r (heads_within p rs n a r (one_more p rs m n a r e h))) trap starts)
runs_so p learns tys start m rs a _ _ (traps _ n _ _ b trap e adv) ready r h = ap (ends p tys) (advanced_so p rs a b (next.Trap trap) adv n r (heads_within p rs n a r (one_more p rs m n a r e h)))
runs_so p learns tys start m rs a _ _ (wilds _ n _ _ b address e adv) ready r h = ap (ends p tys) (advanced_so p rs a b (next.Wild address) adv n r (heads_within p rs n a r (one_more p rs m n a r e h)))
runs_so p learns tys start m rs a _ _ (returns _ n _ _ b e adv) ready r h =
    let q = advanced_so p rs a b next.Return adv n r (heads_within p rs n a r (one_more p rs m n a r e h)) in
    ap (ends p tys) q.1 ∙ ap (λ d. (fitted_outcome p.target (p.places tys) (returned b.hand), d)) q.2

runs_none : (t : Target) (p : PackageRecord) (frames : List ℕ) (start n : ℕ) (rs : List (Option Ready)) (a : Held) (o : Outcome) (w : List ℕ) → n ≡ 0 → RunsTo t p frames start n rs a o w → (o ≡ going) × (w ≡ a.window)
runs_none t p frames start _ rs a _ _ e (spent _ _) = (refl, refl)
runs_none t p frames start m rs a o w e (enters _ n _ _ b _ _ k adv rest) = absurd (omega (arith, e, k))
runs_none t p frames start m rs a o w e (calls _ n _ qs _ b c what words _ _ k adv s rest) = absurd (omega (arith, e, k))
runs_none t p frames start m rs a _ _ e (fails _ n _ qs _ b c what words trap k adv s) = absurd (omega (arith, e, k))
runs_none t p frames start m rs a _ _ e (traps _ n _ _ b trap k adv) = absurd (omega (arith, e, k))
runs_none t p frames start m rs a _ _ e (wilds _ n _ _ b address k adv) = absurd (omega (arith, e, k))
runs_none t p frames start m rs a _ _ e (returns _ n _ _ b k adv) = absurd (omega (arith, e, k))

-- the whole run
module _ (p : Program) (place start bound : ℕ) (rs : List (Option Ready)) (a : Held) (o : Outcome) (w : List ℕ) (all : RunsAll p.target p.pkg p.frames place start bound rs a o w) (no_calls : a.calls ≡ []) (no_numbers : a.numbers ≡ []) (f : FuncRecord) (func : slice_get p.pkg.funcs place ≡ Some f) (size : length rs ≡ length p.pkg.funcs) (there : place < length p.pkg.funcs) where
  left_is : stack_left (top a.calls) start ≡ start
  left_is = ap (λ (cs : List Active). stack_left (top cs) start) no_calls

  trap_known : (t : Option ℕ) → all.trap ≡ t → MatchOption t (RunsTo p.target p.pkg p.frames start bound all.readies all.begun o w) (λ k. (o ≡ trapped k) × (w ≡ all.begun.window))
  trap_known t e = (let P : Option ℕ → Type 0 = λ z. MatchOption z (RunsTo p.target p.pkg p.frames start bound all.readies all.begun o w) (λ k. (o ≡ trapped k) × (w ≡ all.begun.window)) in subst P e all.runs)

  abbrev outcome : Outcome → Outcome
  outcome x = fitted_outcome p.target (p.places f.sig.results) x

  abbrev its_run : Run (List ℕ)
  its_run = begun (run bound p) p place a.hand start (begins a.window bound)

  all_so : Learns p → AreReady p.pkg rs → (outcome o, w) ≡ ends p f.sig.results its_run
  all_so learns ready = go (nat_lt start (slice_index p.frames place)) refl
    where
      go : (t : Bool) → nat_lt start (slice_index p.frames place) ≡ t → (outcome o, w) ≡ ends p f.sig.results its_run
      go true l =
          let s = all.starts.full (ap (λ k. nat_lt k (slice_index p.frames place)) left_is ∙ l) in
          let k = trap_known (Some 5) s.0 in
          ap (λ (z : Outcome). (outcome z, w)) k.0 ∙ ap (λ d. (outcome (trapped 5), d)) (k.1 ∙ s.1) ∙ sym (ap (ends p f.sig.results) (starts_full p place f a.hand a.window start bound func l))
      go false l =
          let m = ap (λ k. nat_lt k (slice_index p.frames place)) left_is ∙ l in
          let r = all.starts.there m (omega (arith, size, there)) in
          let opens = all.starts.opens f r.0 m func r.1 in
          let ready_now = all.starts.ready ready in
          let P : Held → Type 0 = λ z. Begun place (length r.0.values.items) (stack_left (top a.calls) start - slice_index p.frames place) z all.begun in
          let S : ℕ → Type 0 = λ z. Begun place (length r.0.values.items) (z - slice_index p.frames place) a all.begun in
          sym (runs_so p learns f.sig.results start bound all.readies all.begun o w (trap_known None (all.starts.room m)) ready_now its_run
          (starts_heads p all.readies place f r.0 (learns all.readies ready_now place f r.0 func r.1) start bound a all.begun no_calls no_numbers l (subst S left_is (subst P opens.takes opens.begun))))

  -- where no block is entered, of any package
  none_so : EntersNone bound start (slice_index p.frames place) → (outcome o, w) ≡ ends p f.sig.results its_run
  none_so none = go (nat_lt start (slice_index p.frames place)) refl ∙ sym (enters_none p place f a.hand a.window start bound func none)
    where
      no_blocks : nat_lt start (slice_index p.frames place) ≡ false → bound ≡ 0
      no_blocks l = elim none as (λ _. bound ≡ 0) [ inl e ↦ e | inr k ↦ absurd (let z = lt-ltb start (slice_index p.frames place) k in cc) ]

      go : (t : Bool) → nat_lt start (slice_index p.frames place) ≡ t → ◌≡◌ {A = Outcome × List ℕ} (outcome o, w) (end_of_none start (slice_index p.frames place), a.window)
      go true l =
          let s = all.starts.full (ap (λ k. nat_lt k (slice_index p.frames place)) left_is ∙ l) in
          let k = trap_known (Some 5) s.0 in
          ap (λ (z : Outcome). (outcome z, w)) k.0 ∙ ap (λ d. (outcome (trapped 5), d)) (k.1 ∙ s.1) ∙ ap (λ t. ((if t then trapped 5 else going), a.window)) (sym l)
      go false l =
          let m = ap (λ k. nat_lt k (slice_index p.frames place)) left_is ∙ l in
          let r = all.starts.there m (omega (arith, size, there)) in
          let opens = all.starts.opens f r.0 m func r.1 in
          let k = runs_none p.target p.pkg p.frames start bound all.readies all.begun o w (no_blocks l) (trap_known None (all.starts.room m)) in
          ap (λ (z : Outcome). (outcome z, w)) k.0 ∙ ap (λ d. (outcome going, d)) (k.1 ∙ opens.begun.window ∙ ap (λ (z : Held). z.window) opens.takes) ∙ ap (λ t. ((if t then trapped 5 else going), a.window)) (sym l)

  -- the same of arguments and results that are cut to their types
  module _ (args window : List ℕ) (told : Outcome) (hand : a.hand ≡ fitted p.target (p.places f.sig.args) args) (same : a.window ≡ window) (tells : told ≡ outcome o) where
    meant_from : (outcome o, w) ≡ ends p f.sig.results its_run → (told, w) ≡ meaning p place args window start bound
    meant_from e =
        ap (λ (z : Outcome). (z, w)) tells ∙ e
        ∙ ap (λ xs. ends p f.sig.results (begun (run bound p) p place xs start (begins a.window bound))) hand
        ∙ ap (λ xs. ends p f.sig.results (begun (run bound p) p place (fitted p.target (p.places f.sig.args) args) start (begins xs bound))) same
        ∙ meaning_is p place f args window start bound func

    pub run_meant : Learns p → AreReady p.pkg rs → (told, w) ≡ meaning p place args window start bound
    run_meant learns ready = meant_from (all_so learns ready)

    pub run_none : EntersNone bound start (slice_index p.frames place) → (told, w) ≡ meaning p place args window start bound
    run_none none = meant_from (none_so none)

-- of functions in form all that is ready is learnt
pub learns_so : (p : Program) → p.places ≡ whole → AreFormed p.pkg → Learns p
learns_so p places formed rs ready i f r at got =
    let P : FuncRecord → Type 0 = λ g. (s : Setting) × IsFormed s g in
    let s = subst P (get_or_from_slice_get p.pkg.funcs i f f at) (formed i f (slice_get_within p.pkg.funcs i f at)) in
    learnt_ready p places rs i f r at got s.0 s.1 (ready.each i f r at got)

pub in_form_formed : (p : PackageRecord) (t : Target) → AreInForm p t → AreFormed p
in_form_formed p t form = λ k d l. (strict p t, form k d l)

-- no function is ready at first
pub none_are : (p : PackageRecord) (rs : List (Option Ready)) → NoneReady (length p.funcs) rs → AreReady p rs
none_are p rs none = record { size = none.size; each = λ i f r at got. absurd (none.none i r got) }
