use Rattle.bk_share.proofs.Steps.{claim_event, look_event, take_event, split_event, join_event}
use Rattle.bk_share.proofs.laws.each_step_is_an_event.Goals as goal

pub returns-clause-claim : goal.returns-clause-claim
returns-clause-claim c = λ p s id v seat. claim_event p s id v seat

pub returns-clause-look : goal.returns-clause-look
returns-clause-look c = λ p s id v area cell seat ha hc. look_event p s id v seat area cell ha hc

pub returns-clause-take : goal.returns-clause-take
returns-clause-take c = λ p s id v area cell key seat ha hc some_key ann way. take_event p s id v seat area cell key ha hc some_key ann way

pub returns-clause-split : goal.returns-clause-split
returns-clause-split c = λ p s id v seat more. split_event p s id v seat more

pub returns-clause-join : goal.returns-clause-join
returns-clause-join c = λ p s id v other w seat its ne. join_event p s id v seat other w its ne
