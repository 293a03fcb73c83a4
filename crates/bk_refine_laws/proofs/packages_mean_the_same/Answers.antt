use Rattle.std.specs.Prelude.{IsTrue}
use Rattle.bk_refine_laws.proofs.RunsLow.{means_the_same}
use Rattle.bk_refine_laws.proofs.packages_mean_the_same.Goals as goal

pub returns : goal.returns
returns c p k held width z n i args window stack t = means_the_same p k (λ i x. IsTrue (held i x)) width z n i args window stack t
