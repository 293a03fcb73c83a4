use Rattle.bk_form.proofs.types.fits.Goals as goal

pub gives_as_row-requires-clause-named : goal.gives_as_row-requires-clause-named
gives_as_row-requires-clause-named c = let (b, has) = c.requires.there in c.requires.named.args b c.args.value.now has

pub returns-then-gives_as_row : goal.returns-then-gives_as_row
returns-then-gives_as_row c =
    let (op, result) = c.gives_as_row.ensures.0 c.if-gives_as_row.true in (
      (λ t. let (aux, args) = c.takes_as_row.ensures.0 t in record { op = op; result = result; aux = aux; args = args }),
      (λ h. c.takes_as_row.ensures.1 (h.aux, h.args)),
    )
