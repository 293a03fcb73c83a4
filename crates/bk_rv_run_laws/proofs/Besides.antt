-- What parts of a call leave beside its own words.
use Rattle.std.proofs.Common.{◌≢◌, ℕ, ◌+◌, ◌*◌, ◌≤◌, List, length, ap, ◌∙◌, sym, arith, inr}
use Rattle.bk_func.specs.Meaning.{World}
use Rattle.bk_rv_isa.specs.Machine.{Machine}
use Rattle.bk_emit.specs.declared.blocks.Frame.{Frame}
use Rattle.bk_rv_emit_laws.specs.Leaving.{Path}
use Rattle.bk_rv_emit_laws.specs.Frames.{Spares}
use Rattle.bk_rv_emit_laws.proofs.Slots.{same_load}
use Rattle.bk_rv_run_laws.specs.Relation.{IsBack, Beside}

pub of_path : (limit d : ℕ) (m n : Machine) → d ≢ 27 → Path d m n → Beside limit m n
of_path limit d m n h p =
    let k = p.keeps in record {
      bound = k.others 27 (λ e. h (sym e)) (λ e. omega (arith, e));
      above = λ width a l. same_load d m n width a k;
      text = k.text;
      pool = k.pool;
      bottom = k.bottom;
      long = ap length k.stack;
    }

-- steps on the places of a frame
pub of_spares : (f : Frame) (sp limit : ℕ) (m n : Machine) → 8 * (f.out + f.slots + 2) ≤ f.bytes → sp + f.bytes ≤ limit → Spares f sp m n → Beside limit m n
of_spares f sp limit m n room high s = record {
  bound = s.bound;
  above = λ width a l. s.apart width a (inr (omega (arith, room, high, l)));
  text = s.text;
  pool = s.pool;
  bottom = s.bottom;
  long = s.long;
}

pub beside_then : (limit : ℕ) (m n o : Machine) → Beside limit m n → Beside limit n o → Beside limit m o
beside_then limit m n o a b = record {
  bound = b.bound ∙ a.bound;
  above = λ width x l. b.above width x l ∙ a.above width x l;
  text = b.text ∙ a.text;
  pool = b.pool ∙ a.pool;
  bottom = b.bottom ∙ a.bottom;
  long = b.long ∙ a.long;
}

-- a call that comes back from a later machine comes back from the machine before
pub back_behind : (args words home sp : ℕ) (m n o : Machine) (results : List ℕ) (v : World) → Beside (sp + 8 * words) m n → IsBack args words home sp n results v o → IsBack args words home sp m results v o
back_behind args words home sp m n o results v b k = record {
  pc = k.pc;
  well = k.well;
  placed = k.placed;
  bytes = k.bytes;
  pointer = k.pointer;
  window = k.window;
  results = record { low = k.results.low; high = k.results.high };
  beside = beside_then (sp + 8 * words) m n o b k.beside;
}

-- what a call that came back left, for the call that it stands in: its own words lie below the limit
pub of_back : (args words home sp limit : ℕ) (m n : Machine) (results : List ℕ) (v : World) → sp + 8 * words ≤ limit → IsBack args words home sp m results v n → Beside limit m n
of_back args words home sp limit m n results v h k =
    let b = k.beside in record {
      bound = b.bound;
      above = λ width a l. b.above width a (omega (arith, h, l));
      text = b.text;
      pool = b.pool;
      bottom = b.bottom;
      long = b.long;
    }
