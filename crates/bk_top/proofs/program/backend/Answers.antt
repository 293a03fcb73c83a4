use Rattle.std.proofs.Common.{map, string_bytes}
use Rattle.bk_io.specs.Faults.{Rose}
use Rattle.bk_top.specs.Commands.{seen}
use Rattle.bk_top.specs.Answer.{stream}
use Rattle.bk_top.proofs.Refusing.{refused}
use Rattle.bk_top.proofs.program.backend.Goals as goal

pub returns-in-Err-clause-refused : goal.returns-in-Err-clause-refused
returns-in-Err-clause-refused g c some five =
    refused (map string_bytes c.args.words.now)
    (stream (g.S.Source.left c.args.input.now) (g.S.Source.faults c.args.input.now) (g.S.Source.faults c.answer.new.input))
    (stream (g.X.Source.left c.args.extra.now) (g.X.Source.faults c.args.extra.now) (g.X.Source.faults c.answer.new.extra))
    c.tell-in-Err.result (seen c.in-Some.command) c.in-Err.refusal _ _ (Rose (g.E.Sink.faults c.args.err.now) (g.E.Sink.faults c.tell-in-Err.new.err)) c.in-Some.ensures.found c.in-Err.ensures.cause c.tell-in-Err.ensures.told five

pub returns-in-Err-clause-no_extra : goal.returns-in-Err-clause-no_extra
returns-in-Err-clause-no_extra g c = λ none. c.answer.ensures.no_extra (λ reads. none (seen c.in-Some.command) c.in-Some.ensures.found reads)
