-- The order in which the moves of an edge are done, one after the other.
use Rattle.std.specs.Prelude.{ℕ, ◌+◌, ◌*◌, zero, suc, ◌==◌, ◌&&◌, not, Bool, if◌then◌else◌, List, [], ◌∷◌, length, count_by, Option, Some, None}
use Rattle.std.specs.List.{find, fold}
use Rattle.std.specs.Map.{values_of}
use Rattle.std.specs.BTreeMap.{insert_entry}
use Rattle.std.specs.Ordering.{nat_cmp}
use Rattle.bk_func.specs.declared.parts.Loc.{Loc}
use Rattle.bk_func.specs.declared.parts.Loc.TheVariants.{Reg, Slot, Swap}

-- a move: its source and its destination
abbrev pub Move : Type 0
Move = Loc × Loc

-- the places in order: registers, then slots, each by number, then the swap word
abbrev pub place_of : Loc → ℕ
place_of (Reg n) = n
place_of (Slot n) = 256 + n
place_of Swap = 4294967552

-- the move takes from this place to another one
abbrev pub takes_from : ℕ → Move → Bool
takes_from p m = place_of m.0 == p && not (place_of m.1 == p)

-- the destination of m is no source of another move
abbrev pub is_free : List Move → Move → Bool
is_free ms m = count_by (takes_from (place_of m.1)) ms == 0

-- the moves under the places of their destinations, in order
abbrev pub with_move : List (ℕ × Move) → Move → List (ℕ × Move)
with_move es m = insert_entry nat_cmp es (place_of m.1) m

unfoldable pub by_place : List Move → List (ℕ × Move)
by_place ms = fold with_move [] ms

-- the moves without the one to the place
abbrev pub without : ℕ → List Move → List Move
without p [] = []
without p (m ∷ ms) = if place_of m.1 == p then ms else m ∷ without p ms

-- of moves in the order of their destinations, the pair that is done next, and the moves that are left then: the first move
-- whose destination is free; else the source of the first move goes to the swap word, which becomes that move's source
abbrev pub next_by : Move → List Move → Option Move → Move × List Move
next_by m ms (Some x) = (x, without (place_of x.1) (m ∷ ms))
next_by m ms None = ((m.0, Swap), (Swap, m.1) ∷ ms)

unfoldable pub next : List Move → Option (Move × List Move)
next [] = None
next (m ∷ ms) = Some (next_by m ms (find (is_free (m ∷ ms)) (m ∷ ms)))

-- at most so many pairs, while moves are left
abbrev pub onward : Option (Move × List Move) → (List Move → List Move) → List Move
onward None go = []
onward (Some (p, ms)) go = p ∷ go ms

unfoldable pub sequenced : ℕ → List Move → List Move
sequenced zero ms = []
sequenced (suc n) ms = onward (next ms) (sequenced n)

-- a move takes at most two pairs
abbrev pub sequence_of : List Move → List Move
sequence_of ms = sequenced (length ms * 2) (values_of (by_place ms))
