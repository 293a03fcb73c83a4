use Rattle.std.specs.Prelude.{IsTrue}
use Rattle.bk_refine_laws.proofs.LowBits.{possible_agree}
use Rattle.bk_refine_laws.proofs.possible_numbers_agree.Goals as goal

pub returns : goal.returns
returns c p f e d m n width held rank ranked narrow l x y id h =
    possible_agree p f e d m n width (λ z. IsTrue (held z)) rank ranked narrow l x y id h
