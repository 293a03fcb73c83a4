use Rattle.std.proofs.Common.{get_or, arith}
use Rattle.bk_work.specs.Package.{IsCompiled}
use Rattle.bk_top.specs.Answer.{Compiles, IsObjectRefusal, Spoils}
use Rattle.bk_top.specs.Commands.{compile_row, seen_request}
use Rattle.bk_top.proofs.Objects.{if_err, if_ok, spoils}
use Rattle.bk_top.proofs.Reading.{shorter}
use Rattle.bk_top.proofs.rows.compile.compile.Goals as goal

pub object_of-requires-clause-named : goal.object_of-requires-clause-named
object_of-requires-clause-named g c κs within =
    let p = c.in_ok-pkg.pkg in
    let has = c.names_of_texts.ensures.named c.args.text.now p c.in_ok-pkg.ensures.read.0 in
    record {
      few_funcs = has.few_funcs;
      few_vars = has.few_vars;
      counted = has.counted;
      funcs_rise = has.funcs_rise;
      vars_rise = has.vars_rise;
      funcs_within = has.funcs_within;
      vars_within = has.vars_within;
      apart = has.apart;
      differ = has.differ;
      clean = λ k d l. (c.names_of_texts.ensures.clean (get_or p.names k d) (has.named k d l)).0;
      short = omega (arith, shorter p.names, has.short, c.requires);
    }

pub returns-clause-made : goal.returns-clause-made
returns-clause-made g c =
    if_ok (λ bytes. IsCompiled c.in_ok-pkg.pkg c.args.request.target c.args.rules.now bytes.items) (λ bytes. Compiles c.args.request.target c.args.rules.now c.args.text.now bytes.items)
    c.object_of.result (λ bytes is. (c.in_ok-pkg.pkg, c.in_ok-pkg.ensures.read, is)) c.object_of.ensures.made

pub returns-clause-cause : goal.returns-clause-cause
returns-clause-cause g c =
    if_err (IsObjectRefusal c.in_ok-pkg.pkg c.args.request.target c.args.rules.now) (Spoils (compile_row (seen_request c.args.request)) c.args.rules.now c.args.text.now)
    c.object_of.result (spoils c.in_ok-pkg.pkg (seen_request c.args.request) c.args.rules.now c.args.text.now c.in_ok-pkg.ensures.read) c.object_of.ensures.cause
