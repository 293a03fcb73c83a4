use Rattle.std.proofs.Common.{◌≡◌, true, false, length, refl, sym, ap, ◌∙◌}
use Rattle.bk_elf.specs.Loading.{is_placed}
use Rattle.bk_elf.proofs.Faults.{fault_placed}
use Rattle.bk_elf.proofs.Places.{placed_within, length-content}
use Rattle.bk_elf.proofs.file.File.section.Goals as goal

pub returns-then-not-is_placed-clause-refused : goal.returns-then-not-is_placed-clause-refused
returns-then-not-is_placed-clause-refused c =
    let no : is_placed c.args.self.now.bytes.now c.args.section ≡ false = sym c.is_placed.ensures ∙ c.if-not-is_placed.true in
    rw c.bad.ensures (fault_placed c.args.self.now.bytes.now c.args.section c.requires.fit no)

pub returns-clause-length : goal.returns-clause-length
returns-clause-length c =
    let yes : is_placed c.args.self.now.bytes.now c.args.section ≡ true = sym c.is_placed.ensures ∙ c.if-not-is_placed.false in
    ap length c.content-content.ensures ∙ length-content c.args.self.now.bytes.now c.args.section yes

pub returns-clause-end : goal.returns-clause-end
returns-clause-end c =
    let yes : is_placed c.args.self.now.bytes.now c.args.section ≡ true = sym c.is_placed.ensures ∙ c.if-not-is_placed.false in
    let size = ap length c.content-content.ensures ∙ length-content c.args.self.now.bytes.now c.args.section yes in
    rw (size, c.begin-begin.ensures.value) refl

pub returns-clause-within : goal.returns-clause-within
returns-clause-within c =
    let yes : is_placed c.args.self.now.bytes.now c.args.section ≡ true = sym c.is_placed.ensures ∙ c.if-not-is_placed.false in
    let size = ap length c.content-content.ensures ∙ length-content c.args.self.now.bytes.now c.args.section yes in
    rw (size, c.begin-begin.ensures.value) (placed_within c.args.self.now.bytes.now c.args.section yes)
