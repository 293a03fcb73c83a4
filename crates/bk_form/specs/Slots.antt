-- What contracts see of the places of ops.
use Rattle.bk_form.specs.declared.shape.Slot.{Slot as Place}
use Rattle.bk_form.specs.declared.shape.Slot.TheVariants as takes
use Rattle.bk_func.specs.Form.Shapes.{Slot, bits, word, truth, memory, same, stored, base, call, argument, result}

abbrev pub seen_slot : Place → Slot
seen_slot (takes.Bits n) = bits n
seen_slot takes.Word = word
seen_slot takes.Bool = truth
seen_slot takes.Mem = memory
seen_slot takes.Same = same
seen_slot takes.Stored = stored
seen_slot takes.Base = base
seen_slot takes.Call = call
seen_slot takes.Argument = argument
seen_slot takes.Result = result
