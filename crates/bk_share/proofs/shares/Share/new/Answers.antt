use Rattle.std.proofs.Common.{rules, ◌∙◌}
use Rattle.bk_share.proofs.Moves.{begins_as}
use Rattle.bk_share.proofs.shares.Share.new.Goals as goal

pub of_words-requires : goal.of_words-requires
of_words-requires c = begins_as _ c.as_slice.result.now _ (c.as_slice.ensures.value ∙ c.in_ok-words.ensures) (search rules) c.requires.parts
