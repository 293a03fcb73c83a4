-- Pass after pass: what is known at the limit, and at a refusal.
use Rattle.std.proofs.Common.{◌≡◌, ℕ, ◌+◌, List, refl, subst}
use Rattle.bk_ops.specs.declared.types.Target.{Target}
use Rattle.bk_func.specs.Records.{FuncRecord}
use Rattle.bk_func.specs.declared.RewriteError.TheVariants as error
use Rattle.bk_rule.specs.declared.trees.Rule.{Rule}
use Rattle.bk_rewrite.specs.declared.making.Stop.{Stop}
use Rattle.bk_rewrite.specs.declared.making.Stop.TheVariants as stop
use Rattle.bk_rewrite.specs.Making.{refused}
use Rattle.bk_rewrite.specs.Passes.{Changes}
use Rattle.bk_rewrite.proofs.Turns.{changes_now}

pub refused_grown : (s : Stop) → refused s ≡ error.Grown 32769 → s ≡ stop.Grown
refused_grown stop.Grown e = refl
refused_grown stop.Memory e = absurd cc

pub changes_all : (t : Target) (rules : List Rule) (n limit : ℕ) (s f : FuncRecord) → ((m : ℕ) (g : FuncRecord) → Changes t rules m f g → Changes t rules (n + m) s g) → n ≡ limit →
    (g : FuncRecord) × Changes t rules limit s g
changes_all t rules n limit s f k e = (f, subst (λ (i : ℕ). Changes t rules i s f) e (changes_now t rules n s f k))
