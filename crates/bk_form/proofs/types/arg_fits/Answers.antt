use Rattle.std.proofs.Common.{◌∙◌, sym, ap}
use Rattle.std.specs.List.{slice_get}
use Rattle.bk_func.specs.Records.{ValueRecord}
use Rattle.bk_func.specs.Form.Shapes.{FitsPlace}
use Rattle.bk_form.specs.Names.{measure}
use Rattle.bk_form.proofs.Named.{the_value, no_value_named}
use Rattle.bk_form.proofs.Sending.{word_first}
use Rattle.bk_form.proofs.Tables.{through}
use Rattle.bk_form.proofs.types.arg_fits.Goals as goal

pub place_fits-requires-clause-word : goal.place_fits-requires-clause-word
place_fits-requires-clause-word c = λ word first.
    let s = measure c.args.scope.now in
    let v = c.args.value.now in
    through (c.requires.word word)
    (word_first s c.args.scope.now.func.now v c.in-Some.arg.now c.args.id (ap (slice_get v.args) (sym first) ∙ c.requires.at) (sym c.in-Some.ensures))

pub returns-in-Some : goal.returns-in-Some
returns-in-Some c =
    let s = measure c.args.scope.now in
    let f = c.args.scope.now.func.now in
    let v = c.args.value.now in
    through c.place_fits.ensures
    (the_value f c.args.id c.in-Some.arg.now (λ (u : ValueRecord). FitsPlace s f v v.op.family c.args.place u) c.requires.named (sym c.in-Some.ensures))

pub returns-in-None : goal.returns-in-None
returns-in-None c = absurd (no_value_named c.args.scope.now.func.now c.args.id c.requires.named (sym c.in-None.ensures))
