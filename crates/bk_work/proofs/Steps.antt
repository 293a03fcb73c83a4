-- The steps of a function, and which of them it fails.
use Rattle.std.proofs.Common.{◌≡◌, ◌⊎◌, ⊎_elim, ℕ, ◌<◌, List, true, refl, sym, ap, subst, Result, Ok, Err}
use Rattle.std.specs.Prelude.{IfErr, IfOk}
use Rattle.std.specs.Result.{IsErrAnd}
use Rattle.std.proofs.lemmas.Result.{err_from_is_err_and}
use Rattle.bk_ops.specs.declared.types.Target.{Target}
use Rattle.bk_ops.specs.declared.types.Target.TheVariants.{Arm, Riscv64}
use Rattle.bk_func.specs.declared.RewriteError.{RewriteError}
use Rattle.bk_func.specs.declared.RewriteError.TheVariants as rewrite
use Rattle.bk_func.specs.Limits.{most_frame}
use Rattle.bk_func.specs.Records.{FuncRecord, PackageRecord, PlacedRecord}
use Rattle.bk_rule.specs.declared.trees.Rule.{Rule}
use Rattle.bk_rewrite.specs.Passes.{Changes, Outgrows}
use Rattle.bk_calls.specs.declared.frame.FrameError.{FrameError}
use Rattle.bk_calls.specs.declared.frame.FrameError.TheVariants as framing
use Rattle.bk_calls.specs.Budget.{is_grown}
use Rattle.bk_calls.specs.Frame.{need}
use Rattle.bk_dec64.specs.Budget as halved
use Rattle.bk_graph.specs.Critical.{without_critical}
use Rattle.bk_graph.specs.Layout.{layout_of}
use Rattle.bk_sched.specs.Schedule.{IsSchedule}
use Rattle.bk_live.specs.Live.{AllNextUses, IsOrdered}
use Rattle.bk_alloc.specs.Blocks.{Next}
use Rattle.bk_alloc.specs.Placement.{IsPlacement}
use Rattle.bk_work.specs.declared.refusals.Cause.{Cause}
use Rattle.bk_work.specs.declared.refusals.Cause.TheVariants as because
use Rattle.bk_work.specs.declared.refusals.Stop.{Stop}
use Rattle.bk_work.specs.declared.refusals.Stop.TheVariants.{Refused, Memory}
use Rattle.bk_work.specs.Each.{Each}
use Rattle.bk_work.specs.Framed.{FramedRecord, IsFramed, IsMade, IsPlaced, IsTooDeep}
use Rattle.bk_work.specs.Lowered.{IsCoded, IsDecomposed, IsFitted, IsInHalves, IsInWords, IsLowered, IsSettled, pass_limit}
use Rattle.bk_work.specs.Refused.{IsNarrowed, IsRefused, IsUnfit, IsUnframed, IsUnhalved, IsUnsettled, LacksCode, construct, generic, halves, words, machine, frame, passes, values, no_room, unsettled, grown}
use Rattle.bk_work.specs.Rules.{RulesRecord}
use Rattle.bk_work.specs.Stops.{IfRefused, frame_stop, stop_of}

pub if_refused : (P Q : Cause → Type 0) (stop : Stop) → ((cause : Cause) → P cause → Q cause) → IfRefused stop P → IfRefused stop Q
if_refused P Q (Refused cause) step h = step cause h
if_refused P Q Memory step h = tt

unsettled_unframed : (t : Target) (rules : List Rule) (f : FuncRecord) (cause : Cause) → IsUnsettled t rules f cause → IsUnframed cause
unsettled_unframed t rules f _ (passes last h) = λ bytes e. absurd cc
unsettled_unframed t rules f _ (values h) = λ bytes e. absurd cc

unhalved_unframed : (pkg : PackageRecord) (rules : List Rule) (f : FuncRecord) (cause : Cause) → IsUnhalved pkg rules f cause → IsUnframed cause
unhalved_unframed pkg rules f _ (no_room h) = λ bytes e. absurd cc
unhalved_unframed pkg rules f _ (unsettled apart cause d h) = unsettled_unframed Arm rules apart cause h

unfit_unframed : (pkg : PackageRecord) (t : Target) (rules : List Rule) (f : FuncRecord) (cause : Cause) → IsUnfit pkg t rules f cause → IsUnframed cause
unfit_unframed pkg Arm rules f cause h = unhalved_unframed pkg rules f cause h
unfit_unframed pkg Riscv64 rules f cause h = absurd h

abbrev pub IsEarly : PackageRecord → Target → RulesRecord → FuncRecord → Cause → Type 0
IsEarly pkg t rules f cause = IsRefused pkg t rules f cause × IsUnframed cause

pub lacks_code : (pkg : PackageRecord) (t : Target) (rules : RulesRecord) (f : FuncRecord) (stop : Stop)
    → IfRefused stop (λ cause. (value : ℕ) × LacksCode t f value × (cause ≡ because.Construct value)) → IfRefused stop (IsEarly pkg t rules f)
lacks_code pkg t rules f stop = if_refused (λ cause. (value : ℕ) × LacksCode t f value × (cause ≡ because.Construct value)) (IsEarly pkg t rules f) stop (λ cause h.
    let is : cause ≡ because.Construct h.0 = h.2 in
    (subst (IsRefused pkg t rules f) (sym is) (construct h.0 h.1), λ bytes e. absurd cc))

-- what a step before ended with
pub stopped : {A : Type 0} (P : Cause → Type 0) (r : Result A Stop) (stop : Stop) → IsErrAnd r (λ s. s ≡ stop) → IfRefused stop P → IfErr r (λ s. IfRefused s P)
stopped P r stop e h =
    let p = err_from_is_err_and r e in
    subst (λ q. IfErr q (λ s. IfRefused s P)) (sym p.1) (subst (λ s. IfRefused s P) (sym p.2) h)

pub generic_fails : (pkg : PackageRecord) (t : Target) (rules : RulesRecord) (list : List Rule) (f live : FuncRecord) (stop : Stop) → list ≡ rules.generic → IsCoded t f live
    → IfRefused stop (IsUnsettled t list live) → IfRefused stop (IsEarly pkg t rules f)
generic_fails pkg t rules list f live stop is coded = if_refused (IsUnsettled t list live) (IsEarly pkg t rules f) stop
    (λ cause h. (generic live cause coded (subst (λ l. IsUnsettled t l live cause) is h), unsettled_unframed t list live cause h))

pub halves_fail : (pkg : PackageRecord) (t : Target) (rules : RulesRecord) (list more : List Rule) (f live settled : FuncRecord) (stop : Stop) → list ≡ rules.generic → more ≡ rules.halves
    → IsCoded t f live → IsSettled t list live settled → IfRefused stop (IsUnfit pkg t more settled) → IfRefused stop (IsEarly pkg t rules f)
halves_fail pkg t rules list more f live settled stop is more_is coded first = if_refused (IsUnfit pkg t more settled) (IsEarly pkg t rules f) stop
    (λ cause h. (
      halves live settled cause coded (subst (λ l. IsSettled t l live settled) is first) (subst (λ l. IsUnfit pkg t l settled cause) more_is h),
      unfit_unframed pkg t more settled cause h,
    ))

-- the steps before calls go to words, by the lists that the code has
pub narrowed : (pkg : PackageRecord) (t : Target) (rules : RulesRecord) (list more : List Rule) (f live settled fit : FuncRecord) → list ≡ rules.generic → more ≡ rules.halves → IsCoded t f live
    → IsSettled t list live settled → IsFitted pkg t more settled fit → IsNarrowed pkg t rules f fit
narrowed pkg t rules list more f live settled fit is more_is coded first fitted = record {
  live = live;
  settled = settled;
  coded = coded;
  generic = subst (λ l. IsSettled t l live settled) is first;
  fitted = subst (λ l. IsFitted pkg t l settled fit) more_is fitted;
}

pub words_fail : (pkg : PackageRecord) (t : Target) (rules : RulesRecord) (f fit : FuncRecord) (stop : Stop) → IsNarrowed pkg t rules f fit
    → IfRefused stop (λ cause. (is_grown t fit ≡ true) × (cause ≡ grown)) → IfRefused stop (IsEarly pkg t rules f)
words_fail pkg t rules f fit stop before =
    if_refused (λ cause. (is_grown t fit ≡ true) × (cause ≡ grown)) (IsEarly pkg t rules f) stop (λ cause h.
    let same : cause ≡ grown = h.1 in
    (subst (IsRefused pkg t rules f) (sym same) (words fit before h.0), λ bytes e. absurd cc))

-- the list of the last rewriting, and what the steps before it give
pub record AreBefore (pkg : PackageRecord) (t : Target) (rules : RulesRecord) (last : List Rule) (f fit in_words : FuncRecord) : Type 0 where
  pub machine_is : last ≡ rules.machine
  pub first : IsNarrowed pkg t rules f fit
  pub second : IsInWords pkg t fit in_words

pub machine_fails : {A : Type 0} (pkg : PackageRecord) (t : Target) (rules : RulesRecord) (last : List Rule) (f fit in_words : FuncRecord) (r : Result A Stop)
    → AreBefore pkg t rules last f fit in_words → IfErr r (λ stop. IfRefused stop (IsUnsettled t last in_words)) → IfErr r (λ stop. IfRefused stop (IsEarly pkg t rules f))
machine_fails pkg t rules last f fit in_words (Ok g) before h = h
machine_fails pkg t rules last f fit in_words (Err stop) before h = if_refused (IsUnsettled t last in_words) (IsEarly pkg t rules f) stop
    (λ cause h. (
      machine fit in_words cause before.first before.second (subst (λ l. IsUnsettled t l in_words cause) before.machine_is h),
      unsettled_unframed t last in_words cause h,
    )) h

pub all_steps : {E : Type 0} (pkg : PackageRecord) (t : Target) (rules : RulesRecord) (last : List Rule) (f fit in_words : FuncRecord) (r : Result FuncRecord E)
    → AreBefore pkg t rules last f fit in_words → IfOk r (IsSettled t last in_words) → IfOk r (IsLowered pkg t rules f)
all_steps pkg t rules last f fit in_words (Ok g) before h = record {
  live = before.first.live;
  settled = before.first.settled;
  fit = fit;
  words = in_words;
  coded = before.first.coded;
  generic = before.first.generic;
  fitted = before.first.fitted;
  in_words = before.second;
  machine = subst (λ l. IsSettled t l in_words g) before.machine_is h;
}
all_steps pkg t rules last f fit in_words (Err stop) before h = h

pub lowering_fails : (pkg : PackageRecord) (t : Target) (rules : RulesRecord) (f : FuncRecord) (stop : Stop) → IfRefused stop (IsEarly pkg t rules f) → IfRefused stop (IsRefused pkg t rules f)
lowering_fails pkg t rules f stop = if_refused (IsEarly pkg t rules f) (IsRefused pkg t rules f) stop (λ cause h. h.0)

pub all_made : {E : Type 0} (pkg : PackageRecord) (t : Target) (rules : RulesRecord) (f lowered : FuncRecord) (r : Result FramedRecord E) → IsLowered pkg t rules f lowered
    → IfOk r (IsFramed pkg t lowered) → IfOk r (IsMade pkg t rules f)
all_made pkg t rules f lowered (Ok it) steps h = record { lowered = lowered; steps = steps; framed = h }
all_made pkg t rules f lowered (Err stop) steps h = h

pub frame_fails : {A : Type 0} (pkg : PackageRecord) (t : Target) (rules : RulesRecord) (f lowered : FuncRecord) (r : Result A Stop) → IsLowered pkg t rules f lowered
    → IfErr r (λ stop. IfRefused stop (λ cause. (bytes : ℕ) × IsTooDeep pkg t lowered bytes × (cause ≡ because.Frame bytes))) → IfErr r (λ stop. IfRefused stop (IsRefused pkg t rules f))
frame_fails pkg t rules f lowered (Ok it) steps h = h
frame_fails pkg t rules f lowered (Err stop) steps h =
    if_refused (λ cause. (bytes : ℕ) × IsTooDeep pkg t lowered bytes × (cause ≡ because.Frame bytes)) (IsRefused pkg t rules f) stop
    (λ cause h. subst (IsRefused pkg t rules f) (sym h.2) (frame lowered h.0 steps h.1)) h

pub refused_rewrite : (t : Target) (rules : List Rule) (f : FuncRecord) (e : RewriteError) → (e ≡ rewrite.Memory) ⊎ ((e ≡ rewrite.Grown 32769) ⊎ (e ≡ rewrite.Passes (pass_limit f)))
    → (e ≡ rewrite.Passes (pass_limit f) → (g : FuncRecord) × Changes t rules (pass_limit f) f g) → (e ≡ rewrite.Grown 32769 → Outgrows t rules (pass_limit f) f)
    → IfRefused (stop_of e) (IsUnsettled t rules f)
refused_rewrite t rules f e cases many big = ⊎_elim
    (λ h. subst (λ x. IfRefused (stop_of x) (IsUnsettled t rules f)) (sym h) tt)
    (λ rest. ⊎_elim
    (λ h. subst (λ x. IfRefused (stop_of x) (IsUnsettled t rules f)) (sym h) (values (big h)))
    (λ h. let m = many h in subst (λ x. IfRefused (stop_of x) (IsUnsettled t rules f)) (sym h) (passes m.0 m.1))
    rest)
    cases

pub unhalved_room : (pkg : PackageRecord) (rules : List Rule) (f : FuncRecord) (stop : Stop) → IfRefused stop (λ cause. (halved.is_grown pkg f ≡ true) × (cause ≡ grown))
    → IfRefused stop (IsUnhalved pkg rules f)
unhalved_room pkg rules f stop = if_refused (λ cause. (halved.is_grown pkg f ≡ true) × (cause ≡ grown)) (IsUnhalved pkg rules f) stop
    (λ cause h. subst (IsUnhalved pkg rules f) (sym h.1) (no_room h.0))

pub unhalved_rules : {A : Type 0} (pkg : PackageRecord) (rules : List Rule) (f apart : FuncRecord) (r : Result A Stop) → IsDecomposed pkg f apart
    → IfErr r (λ stop. IfRefused stop (IsUnsettled Arm rules apart)) → IfErr r (λ stop. IfRefused stop (IsUnhalved pkg rules f))
unhalved_rules pkg rules f apart (Ok g) d h = h
unhalved_rules pkg rules f apart (Err stop) d h = if_refused (IsUnsettled Arm rules apart) (IsUnhalved pkg rules f) stop (λ cause h. unsettled apart cause d h) h

pub in_halves : {E : Type 0} (pkg : PackageRecord) (rules : List Rule) (f apart : FuncRecord) (r : Result FuncRecord E) → IsDecomposed pkg f apart → IfOk r (IsSettled Arm rules apart)
    → IfOk r (IsInHalves pkg rules f)
in_halves pkg rules f apart (Ok g) d h = record { apart = apart; decomposed = d; settled = h }
in_halves pkg rules f apart (Err e) d h = h

pub refused_words : (P : Type 0) (e : RewriteError) → (e ≡ rewrite.Memory) ⊎ ((e ≡ rewrite.Grown 32769) × P) → IfRefused (stop_of e) (λ cause. P × (cause ≡ grown))
refused_words P e cases = ⊎_elim
    (λ h. subst (λ x. IfRefused (stop_of x) (λ cause. P × (cause ≡ grown))) (sym h) tt)
    (λ h. subst (λ x. IfRefused (stop_of x) (λ cause. P × (cause ≡ grown))) (sym h.0) (h.1, refl))
    cases

pub refused_frame : (e : FrameError) (bytes : ℕ) → e ≡ framing.Frame bytes → most_frame < bytes → IfRefused (frame_stop e) (λ cause. (cause ≡ because.Frame bytes) × (most_frame < bytes))
refused_frame e bytes is over = subst (λ x. IfRefused (frame_stop x) (λ cause. (cause ≡ because.Frame bytes) × (most_frame < bytes))) (sym is) (refl, over)

-- the bytes that a call of a placed function needs are too many
pub too_deep : (pkg : PackageRecord) (t : Target) (f split : FuncRecord) (placed : PlacedRecord) (stop : Stop) → split ≡ without_critical f → IsPlaced pkg t split placed
    → IfRefused stop (λ cause. (cause ≡ because.Frame (need t placed.out placed.slots split.sig)) × (most_frame < need t placed.out placed.slots split.sig))
    → IfRefused stop (λ cause. (bytes : ℕ) × IsTooDeep pkg t f bytes × (cause ≡ because.Frame bytes))
too_deep pkg t f split placed stop is places =
    if_refused (λ cause. (cause ≡ because.Frame (need t placed.out placed.slots split.sig)) × (most_frame < need t placed.out placed.slots split.sig))
    (λ cause. (bytes : ℕ) × IsTooDeep pkg t f bytes × (cause ≡ because.Frame bytes)) stop
    (λ cause h.
    let deep : IsTooDeep pkg t f (need t placed.out placed.slots split.sig) = record {
      placed = placed;
      places = subst (λ g. IsPlaced pkg t g placed) is places;
      needed = ap (λ (g : FuncRecord). need t placed.out placed.slots g.sig) is;
      over = h.1;
    } in
    (need t placed.out placed.slots split.sig, deep, h.0))

pub placed_is : {E : Type 0} (pkg : PackageRecord) (t : Target) (f : FuncRecord) (layout : List ℕ) (orders : List (List ℕ)) (r : Result PlacedRecord E) → Each IsSchedule f.blocks orders
    → layout ≡ layout_of f → ((next : Next) → IsOrdered f orders → AllNextUses f orders next → IfOk r (IsPlacement next t pkg f layout orders)) → IfOk r (IsPlaced pkg t f)
placed_is pkg t f layout orders (Ok placed) scheduled laid places = record {
  orders = orders;
  scheduled = scheduled;
  places = λ next ordered uses. subst (λ l. IsPlacement next t pkg f l orders placed) laid (places next ordered uses);
}
placed_is pkg t f layout orders (Err error) scheduled laid places = tt
