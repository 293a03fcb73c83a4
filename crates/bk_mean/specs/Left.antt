-- How a block is left: by an edge, by a call, or with results.
use Rattle.std.specs.Prelude.{◌≡◌, ℕ, ◌+◌, ◌%◌, ◌==◌, Bool, true, false, if◌then◌else◌, ◌-◌, List, [], ◌∷◌, ◌++◌, length, map, take, drop, slice_get, slice_index, slice_set, Option, Some, None}
use Rattle.bk_ops.specs.declared.types.Target.{Target}
use Rattle.bk_func.specs.declared.parts.Kind.{Kind}
use Rattle.bk_func.specs.declared.parts.Kind.TheVariants.{Plain, If, First, Ret, Exit}
use Rattle.bk_func.specs.Records.{SigRecord, FuncRecord, BlockRecord}
use Rattle.bk_func.specs.Words.{words_at}
use Rattle.bk_func.specs.Meaning.{without_memory}
use Rattle.bk_mean.specs.declared.machine.Activation.{Activation}
use Rattle.bk_mean.specs.declared.ready.Ready.{Ready}
use Rattle.bk_mean.specs.declared.ready.ReadyValue.{ReadyValue}
use Rattle.bk_mean.specs.declared.ready.ReadyBlock.{ReadyBlock}
use Rattle.bk_mean.specs.declared.ready.Edge.{Edge}
use Rattle.bk_mean.specs.declared.step.After.{After}
use Rattle.bk_mean.specs.declared.step.After.TheVariants as after
use Rattle.bk_mean.specs.declared.step.CallWords.{CallWords}
use Rattle.bk_mean.specs.declared.turn.Next.{Next}
use Rattle.bk_mean.specs.declared.turn.Next.TheVariants as next
use Rattle.bk_mean.specs.Machine.{arg_number}
use Rattle.bk_mean.specs.Seen.{word_in}
use Rattle.bk_mean.specs.Turned.{Stage, Turned}

-- a call in the same block, farther on
abbrev pub going : Activation → ℕ → ℕ → CallWords → Activation
going a n by words = record a { next = n; called_by = by; words = words }

-- the words that a call gives back: those in registers, then those that were written
abbrev pub given_words : SigRecord → CallWords → List ℕ
given_words g ws =
    ws.regs.items ++ words_at (word_in ws.back) (length g.args + length ws.regs.items) (length g.results - length ws.regs.items)

-- the results of a function: the numbers at the places of its control's arguments, or the words given back
abbrev pub results_of : Option ReadyValue → List ℕ → SigRecord → CallWords → List ℕ
results_of None numbers g ws = given_words g ws
results_of (Some r) numbers g ws = if r.gives_results then map (slice_index numbers) (without_memory r.args.items) else given_words g ws

-- the number that a phi takes by an edge
abbrev pub phi_number : Option ReadyValue → List ℕ → ℕ → ℕ
phi_number None numbers edge = 0
phi_number (Some r) numbers edge = arg_number numbers r.args.items edge

-- the numbers that the phis at places of a block take by an edge, all at once
abbrev pub phi_numbers : ℕ → List ReadyValue → List ℕ → ℕ → List ℕ → List ℕ
phi_numbers first rs numbers edge phis = map (λ k. phi_number (slice_get rs (first + k)) numbers edge) phis

-- numbers put in their places
abbrev pub put_all : ℕ → List ℕ → List ℕ → List ℕ → List ℕ
put_all first [] ns numbers = numbers
put_all first (k ∷ ks) [] numbers = numbers
put_all first (k ∷ ks) (n ∷ ns) numbers = put_all first ks ns (slice_set numbers (first + k) n)

-- what a call has at the end of a block: itself, its numbers and those at hand
pub record Desk : Type 0 where
  pub call : Activation
  pub numbers : List ℕ
  pub hand : List ℕ

-- a block that is there is entered by an edge at a place
abbrev pub Enters : Ready → ℕ → ℕ → Option ReadyBlock → Desk → Desk → Next → Type 0
Enters r block place None a b x = x ≡ next.Trap 6
Enters r block place (Some c) a b x =
    (x ≡ next.Enter) × (b.call ≡ record a.call { block = block; next = 0 })
    × (b.numbers ≡ put_all c.first c.phis.items (phi_numbers c.first r.values.items a.numbers place c.phis.items) a.numbers)

abbrev pub Crosses : Ready → Option ℕ → ℕ → Desk → Desk → Next → Type 0
Crosses r None place a b x = x ≡ next.Trap 6
Crosses r (Some k) place a b x = Enters r k place (slice_get r.blocks.items k) a b x

-- the edge of a block with two: the second where its control is even
abbrev pub chosen : Bool → ReadyBlock → Edge
chosen true c = c.other
chosen false c = c.edge

-- the way out of a block by its kind
abbrev pub Leaves : Kind → SigRecord → Ready → ReadyBlock → Desk → Desk → Next → Type 0
Leaves Plain g r c a b x = Crosses r c.edge.block c.edge.place a b x
Leaves First g r c a b x = Crosses r c.edge.block c.edge.place a b x
Leaves If g r c a b x =
    Crosses r (chosen (slice_index a.numbers c.control % 2 == 0) c).block (chosen (slice_index a.numbers c.control % 2 == 0) c).place a b x
Leaves Ret g r c a b x =
    (x ≡ next.Return) × (b.call ≡ a.call) × (b.numbers ≡ a.numbers)
    × (b.hand ≡ results_of (slice_get r.values.items c.control) a.numbers g a.call.words)
Leaves Exit g r c a b x = x ≡ next.Trap 6

-- the numbers of a call's arguments are at hand
abbrev pub Begins : Option ReadyValue → Desk → Desk → Next → Type 0
Begins None a b x = x ≡ next.Trap 6
Begins (Some r) a b x =
    (x ≡ next.Call r.callee r.on_words) × (b.call ≡ a.call) × (b.numbers ≡ a.numbers) × (b.hand ≡ map (slice_index a.numbers) (without_memory r.args.items))

-- what comes after the turns of a block's values
abbrev pub Goes : After → Kind → SigRecord → Ready → ReadyBlock → Desk → Desk → Next → Type 0
Goes after.On k g r c a b x = Leaves k g r c a b x
Goes (after.Trap n) k g r c a b x = x ≡ next.Trap n
Goes (after.Wild n) k g r c a b x = x ≡ next.Wild n
Goes after.Call k g r c a b x = Begins (slice_get r.values.items a.call.called_by) a b x

-- the rest of a block, in a call on these arguments
pub record Ran (t : Target) (f : FuncRecord) (r : Ready) (k : BlockRecord) (c : ReadyBlock) (args : List ℕ) (a b : Desk) (old new : List ℕ) (x : Next) : Type 0 where
  pub stage : Stage
  pub at : ℕ
  pub by : ℕ
  pub after : After
  pub turned : Turned (record { target = t; args = args }) k c.first r.values.items (drop a.call.next c.order.items)
      (record { numbers = a.numbers; window = old; words = a.call.words }) stage (drop at c.order.items) by after
  pub window : new ≡ stage.window
  pub went : Goes after k.kind f.sig r c (record { call = going a.call at by stage.words; numbers = stage.numbers; hand = a.hand }) b x

-- the same where the numbers of a call are those of its values, one more, and its arguments
pub record GoesOn (t : Target) (f : FuncRecord) (r : Ready) (k : BlockRecord) (c : ReadyBlock) (a b : Desk) (old new : List ℕ) (x : Next) : Type 0 where
  pub last : List ℕ
  pub ran : Ran t f r k c (drop (length r.values.items + 1) a.numbers) (record { call = a.call; numbers = take (length r.values.items + 1) a.numbers; hand = a.hand })
      (record { call = b.call; numbers = last; hand = b.hand }) old new x
  pub numbers : b.numbers ≡ last ++ drop (length r.values.items + 1) a.numbers
