use Rattle.std.proofs.Common.{◌≡◌, ◌+◌, ◌≤◌, length, drop}
use Rattle.bk_elf.specs.Fields.{extent, first_fault}
use Rattle.bk_elf.proofs.fields.first_fault.Given as goal

-- the fields that are left, from the place that is reached, fail where all do
abbrev pub invariant-loop-field : goal.invariant-loop-field
invariant-loop-field l = record {
  left : first_fault l.bytes l.place (drop l.field-index l.fields) ≡ first_fault l.bytes l.fn.at l.fields;
  room : l.place + extent (drop l.field-index l.fields) ≤ length l.bytes;
}
