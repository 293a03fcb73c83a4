-- What the meaning calls the parts of a run.
use Rattle.std.specs.Prelude.{ℕ, Option, Some, None, unwrap_or}
use Rattle.std.specs.Ordering.{nat_cmp}
use Rattle.std.specs.BTreeMap.{get}
use Rattle.bk_mean.specs.declared.role.Origin.{Origin}
use Rattle.bk_mean.specs.declared.role.Origin.TheVariants as rust
use Rattle.bk_mean.specs.declared.role.Effect.{Effect}
use Rattle.bk_mean.specs.declared.role.Effect.TheVariants as does
use Rattle.bk_mean.specs.declared.words.Words.{Words}
use Rattle.bk_mean.specs.declared.Outcome.{Outcome}
use Rattle.bk_mean.specs.declared.Outcome.TheVariants.{Returned, Trapped, Going, Wild}
use Rattle.bk_func.specs.Numbers as num
use Rattle.bk_func.specs.Effects as fx
use Rattle.bk_func.specs.Meaning as mean

abbrev pub seen_origin : Origin → num.Origin
seen_origin rust.Phi = num.phi
seen_origin rust.Argument = num.argument
seen_origin rust.ArgumentWord = num.argument_word
seen_origin rust.Result = num.result
seen_origin rust.Address = num.address
seen_origin rust.Loaded = num.loaded
seen_origin rust.Checked = num.checked
seen_origin rust.Same = num.same
seen_origin rust.Computed = num.computed

abbrev pub seen_effect : Effect → fx.Effect
seen_effect does.Store = fx.store
seen_effect does.Zeros = fx.zeros
seen_effect does.Move = fx.move
seen_effect does.PanicBounds = fx.panic_bounds
seen_effect does.Call = fx.call
seen_effect does.CallWords = fx.call_words
seen_effect does.OutWord = fx.out_word
seen_effect does.RetWord = fx.ret_word
seen_effect does.RetWords = fx.ret_words
seen_effect does.Trap = fx.trap
seen_effect does.Pass = fx.pass

abbrev pub seen_effects : Option Effect → Option fx.Effect
seen_effects None = None
seen_effects (Some e) = Some (seen_effect e)

abbrev pub seen_outcome : Outcome → mean.Outcome
seen_outcome (Returned ns) = mean.returned ns.items
seen_outcome (Trapped n) = mean.trapped n
seen_outcome Going = mean.going
seen_outcome (Wild a) = mean.wild a

-- the word at a place, 0 where none was written
abbrev pub word_in : Words → ℕ → ℕ
word_in w k = unwrap_or (get nat_cmp w.written k) 0
