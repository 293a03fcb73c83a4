-- Runs that enter no block, and what a run means.
use Rattle.std.proofs.Common.{◌≡◌, ℕ, refl, ap, sym, ◌∙◌, arith, inl, inr, List, Option, Some, Bool, true, false}
use Rattle.std.specs.Prelude.{slice_get, slice_index, nat_lt, if◌then◌else◌, ◌-◌}
use Rattle.std.proofs.lemmas.Bool.Decides.{nat_tests}
use Rattle.bk_ops.specs.declared.types.Ty.{Ty}
use Rattle.bk_func.specs.Records.{FuncRecord}
use Rattle.bk_func.specs.Words.{fitted}
use Rattle.bk_func.specs.Numbers.{Program}
use Rattle.bk_func.specs.Symbols.{sig_of_some}
use Rattle.bk_func.specs.Meaning.{Outcome, trapped, going, World, Run, stops, run, begun, begun_in, fitted_run, fresh, entry_id, ended, meaning}
use Rattle.bk_mean.specs.Eval.{EntersNone, end_of_none}

-- a run begins
abbrev pub begins : List ℕ → ℕ → World
begins window n = record { window = window; left = n }

-- how a run ends, each result cut to its type
abbrev pub ends : Program → List Ty → Run (List ℕ) → Outcome × List ℕ
ends p tys r = ended (fitted_run p tys r)

pub meaning_is : (p : Program) (i : ℕ) (f : FuncRecord) (args window : List ℕ) (stack n : ℕ) → slice_get p.pkg.funcs i ≡ Some f →
    ends p f.sig.results (begun (run n p) p i (fitted p.target (p.places f.sig.args) args) stack (begins window n)) ≡ meaning p i args window stack n
meaning_is p i f args window stack n e =
    ap (λ (o : Option FuncRecord). ends p (sig_of_some o).results (begun (run n p) p i (fitted p.target (p.places (sig_of_some o).args) args) stack (begins window n))) (sym e)

by_bound : (p : Program) (i : ℕ) (f : FuncRecord) (args window : List ℕ) (stack n : ℕ) → (b : Bool) → (b ≡ false → n ≡ 0) →
    ends p f.sig.results (if b then stops (trapped 5) window else run n p i (fresh args (stack - slice_index p.frames i)) (entry_id f.blocks) 0 (begins window n)) ≡ ((if b then trapped 5 else going), window)
unfolding run
by_bound p i f args window stack n true h = refl
by_bound p i f args window stack n false h = ap (λ k. ends p f.sig.results (run k p i (fresh args (stack - slice_index p.frames i)) (entry_id f.blocks) 0 (begins window k))) (h refl)

pub enters_none : (p : Program) (i : ℕ) (f : FuncRecord) (args window : List ℕ) (stack n : ℕ) → slice_get p.pkg.funcs i ≡ Some f → EntersNone n stack (slice_index p.frames i) →
    ends p f.sig.results (begun (run n p) p i args stack (begins window n)) ≡ (end_of_none stack (slice_index p.frames i), window)
enters_none p i f args window stack n e h =
    ap (λ o. ends p f.sig.results (begun_in o (run n p) p i args stack (begins window n))) e ∙ by_bound p i f args window stack n (nat_lt stack (slice_index p.frames i)) (spent h)
  where
    spent : EntersNone n stack (slice_index p.frames i) → nat_lt stack (slice_index p.frames i) ≡ false → n ≡ 0
    spent (inl z) q = z
    spent (inr l) q = let b : nat_lt stack (slice_index p.frames i) ≡ true = grind (arith, nat_tests) in absurd (let w : true ≡ false = sym b ∙ q in cc)
