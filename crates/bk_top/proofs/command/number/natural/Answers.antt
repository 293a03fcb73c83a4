use Rattle.std.proofs.Common.{rules, IsTrue, ◌∙◌, subst, refl}
use Rattle.bk_top.specs.Commands.{IsCanonical}
use Rattle.bk_top.proofs.Numbers.{canonical, read_found, read_none}
use Rattle.bk_top.proofs.command.number.natural.Goals as goal

pub returns-then-not-is_canonical-clause-none : goal.returns-then-not-is_canonical-clause-none
returns-then-not-is_canonical-clause-none c n h e =
    let b : IsTrue c.is_canonical.result = c.is_canonical.ensures.1 (canonical n c.as_bytes.result.now h (c.as_bytes.ensures.value ∙ e)) in
    search rules

pub returns-clause-found : goal.returns-clause-found
returns-clause-found c =
    let b : IsTrue c.is_canonical.result = search rules in
    read_found c.parse.result c.ok.result c.args.digits.now _ c.parse.ensures.value.0 refl c.ok.ensures.value (subst IsCanonical c.as_bytes.ensures.value (c.is_canonical.ensures.0 b))

pub returns-clause-none : goal.returns-clause-none
returns-clause-none c = read_none c.parse.result c.ok.result c.args.digits.now _ c.parse.ensures.value.0 refl c.ok.ensures.value
