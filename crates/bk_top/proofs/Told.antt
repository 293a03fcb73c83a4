-- How a run of a package that was read is told.
use Rattle.std.proofs.Common.{ℕ, List}
use Rattle.std.specs.Prelude.{Ok}
use Rattle.bk_ops.specs.declared.types.Target.{Target}
use Rattle.bk_func.specs.Records.{PackageRecord}
use Rattle.bk_func.specs.Form.{strict}
use Rattle.bk_mean.specs.Eval.{AreFormed}
use Rattle.bk_top.specs.Package.{ReadsAs}

-- the functions of a package that was read are in form
pub read_formed : (text : List ℕ) (t : Target) (p : PackageRecord) → ReadsAs text t (Ok p) → AreFormed p
read_formed text t p h = λ i f l. (strict p t, h.1 i f l)
