-- What a function does: results, a trap, an access outside the data window, or more blocks than a bound allows.
--
-- A call is a function of the numbers in its arguments' places, the stack left, the data window and the count of blocks that
-- may still be entered; it gives the numbers in the places of its results, and what is then left of the last two, or the run
-- stops in it. What is handed on is whole: numbers are cut to their types where values of the function take them, and at the
-- results of the run.
use Rattle.std.specs.Prelude.{ℕ, zero, suc, ◌+◌, ◌-◌, ◌%◌, ◌^◌, ◌==◌, nat_lt, Bool, true, false, not, if◌then◌else◌, List, [], ◌∷◌, ◌++◌, length, map, take, find, position, slice_get, slice_index, Option, Some, None}
use Rattle.bk_num.specs.Bytes.{is_within}
use Rattle.bk_num.specs.Memory.{data_base}
use Rattle.bk_ops.specs.Memory.{number_at, with_number, with_zeros, do_overlap}
use Rattle.bk_ops.specs.Types.{word_width, size_of_ty}
use Rattle.bk_ops.specs.declared.family.Family.{Family}
use Rattle.bk_ops.specs.declared.family.Family.TheVariants as op
use Rattle.bk_ops.specs.declared.family.ArmOp.TheVariants as arm
use Rattle.bk_ops.specs.declared.family.RvOp.TheVariants as rv
use Rattle.bk_ops.specs.declared.table.Op.{Op}
use Rattle.bk_ops.specs.declared.types.Target.{Target}
use Rattle.bk_ops.specs.declared.types.Ty.{Ty}
use Rattle.bk_func.specs.declared.parts.Aux.{Aux}
use Rattle.bk_func.specs.declared.parts.Aux.TheVariants as beside
use Rattle.bk_func.specs.declared.parts.Kind.{Kind}
use Rattle.bk_func.specs.declared.parts.Kind.TheVariants.{Plain, If, First, Ret, Exit}
use Rattle.bk_func.specs.Records.{ValueRecord, BlockRecord, FuncRecord, SigRecord}
use Rattle.bk_func.specs.Edits.{block_of, nth_place, rank_in}
use Rattle.bk_func.specs.Symbols.{panic_divide, panic_shift, symbol_of, sig_of_some, sig_of}
use Rattle.bk_func.specs.Traps.{trap_nil, trap_bounds, trap_divide, trap_shift, trap_stack, trap_exit}
use Rattle.bk_func.specs.Words.{words_at, fitted}
use Rattle.bk_func.specs.Numbers.{Program, Env, Origin, phi, loaded, checked, origin_of, value_in, value_of, natural, is_mem, is_truth, address_by, load_size, numbers}
use Rattle.bk_func.specs.Effects.{Effect, store, zeros, move, panic_bounds, call, call_words, out_word, ret_word, ret_words, trap, pass, effect_of, chain_from, order}

-- how a run ends
pub data Outcome : Type 0 where
  returned : List ℕ → Outcome
  trapped : ℕ → Outcome
  wild : ℕ → Outcome
  going : Outcome

-- what calls share: the data window, and how many blocks may still be entered
pub record World : Type 0 where
  pub window : List ℕ
  pub left : ℕ

-- a part of a run gives a value, or the run ends in it and leaves the data window
pub data Run (A : Type 0) : Type 0 where
  gives : A → World → Run A
  stops : Outcome → List ℕ → Run A

abbrev pub bind : {A B : Type 0} → Run A → (A → World → Run B) → Run B
bind (gives a w) go = go a w
bind (stops o d) go = stops o d

-- a call that is under way: what its values stand on, the state of memory, the words for its next call and the words that
-- it gives back, both by their places among the words of a signature, the first words that it gives back, in registers, and
-- the stack left to the calls in it
pub record Activation : Type 0 where
  pub env : Env
  pub memory : ℕ
  pub out : ℕ → ℕ
  pub back : ℕ → ℕ
  pub regs : List ℕ
  pub stack : ℕ

-- a function by number with one value changed
abbrev pub put : {A : Type 0} → (ℕ → A) → ℕ → A → ℕ → A
put g n x i = if i == n then x else g i

-- what a run from the entry of a block gives: of the function at a place of the package, in a call, at the block with a
-- number, entered by the edge at a place among its predecessors
abbrev pub Entries : Type 0
Entries = ℕ → Activation → ℕ → ℕ → World → Run (List ℕ)

-- what a call gives: of the function with a name, on numbers, with the stack left
abbrev pub Calls : Type 0
Calls = ℕ → List ℕ → ℕ → World → Run (List ℕ)

-- checks and loads

-- how a check or a load ends the run: at a nil pointer, or outside the data window
abbrev pub fault_by : Origin → Target → (ℕ → ℕ) → List ℕ → ValueRecord → Option Outcome
fault_by checked t m window v = if m (slice_index v.args 0) % 2 ^ word_width t == 0 then Some (trapped trap_nil) else None
fault_by loaded t m window v =
    if is_within data_base window (load_size t v.ty v.op v.op.family) (address_by t v m) then None else Some (wild (address_by t v m))
fault_by _ t m window v = None

abbrev pub fault_at : Target → (ℕ → ℕ) → List ℕ → ValueRecord → Option Outcome
fault_at t m window v = fault_by (origin_of v.op.family) t m window v

abbrev pub or_else : {A : Type 0} → Option A → Option A → Option A
or_else None q = q
or_else (Some x) q = Some x

abbrev pub first_fault : Target → (ℕ → ℕ) → List ℕ → List ValueRecord → Option Outcome
first_fault t m window [] = None
first_fault t m window (v ∷ vs) = or_else (fault_at t m window v) (first_fault t m window vs)

abbrev pub halted : {A : Type 0} → Option Outcome → A → World → Run A
halted None a w = gives a w
halted (Some o) a w = stops o w.window

-- the checks and loads of the state that memory is in
abbrev pub checked_at : Program → FuncRecord → BlockRecord → Activation → World → Run Activation
checked_at p f b a w = halted (first_fault p.target (numbers p f a.env) w.window (order f b a.memory)) a w

-- memory values

-- how many bytes a store writes, and which number
abbrev pub store_size : Target → Aux → Op → Family → ℕ
store_size t (beside.Ty ty) o op.Store = size_of_ty ty t
store_size t _ o op.Store = 0
store_size t x o (op.Arm arm.StoreB) = 1
store_size t x o (op.Rv rv.StoreB) = 1
store_size t x o _ = o.a

abbrev pub is_truth_beside : Aux → Bool
is_truth_beside (beside.Ty ty) = is_truth ty
is_truth_beside _ = false

abbrev pub stored_of : Aux → Family → ℕ → ℕ
stored_of x op.Store n = if is_truth_beside x then n % 2 else n
stored_of x (op.Arm arm.StoreB) n = n % 2
stored_of x (op.Rv rv.StoreB) n = n % 2
stored_of x _ n = n

-- the run goes on with another data window, or is wild at an address
abbrev pub with_window : {A : Type 0} → Option (List ℕ) → ℕ → A → World → Run A
with_window None address a w = stops (wild address) w.window
with_window (Some d) address a w = gives a (record w { window = d })

-- n bytes from one address written at another, where both lie in the window and, unless they are the same, share no byte
abbrev pub moved : {A : Type 0} → Option ℕ → ℕ → ℕ → ℕ → A → World → Run A
moved None n to from a w = stops (wild from) w.window
moved (Some bytes) n to from a w =
    if do_overlap n to from then stops (wild to) w.window else with_window (with_number w.window n to bytes) to a w

-- the arguments of a call without memory, which is the last
abbrev pub without_memory : List ℕ → List ℕ
without_memory args = take (length args - 1) args

abbrev pub with_given : Activation → ℕ → List ℕ → Activation
with_given a id xs = record a { env = record a.env { given = put a.env.given id xs } }

-- the words of a call: the first ones in registers, which the call has as arguments, the others as they were put
abbrev pub words_sent : Program → SigRecord → List ℕ → (ℕ → ℕ) → List ℕ
words_sent p g regs out = regs ++ words_at out (length regs) (length (p.places g.args) - length regs)

abbrev pub done_by : Option Effect → Calls → Program → (ℕ → ℕ) → ValueRecord → Activation → World → Run Activation
done_by (Some store) calls p m v a w =
    with_window (with_number w.window (store_size p.target v.aux v.op v.op.family) (address_by p.target v m) (stored_of v.aux v.op.family (m (slice_index v.args 1))))
    (address_by p.target v m) a w
done_by (Some zeros) calls p m v a w =
    let to = m (slice_index v.args 0) % 2 ^ word_width p.target in
    if natural v.int == 0 then gives a w else with_window (with_zeros w.window (natural v.int) to) to a w
done_by (Some move) calls p m v a w =
    let to = m (slice_index v.args 0) % 2 ^ word_width p.target in
    let from = m (slice_index v.args 1) % 2 ^ word_width p.target in
    if natural v.int == 0 then gives a w else moved (number_at w.window (natural v.int) from) (natural v.int) to from a w
done_by (Some panic_bounds) calls p m v a w = stops (trapped trap_bounds) w.window
done_by (Some call) calls p m v a w =
    bind (calls (symbol_of v.aux) (map m (without_memory v.args)) a.stack w) (λ results w. gives (with_given a v.id results) w)
done_by (Some call_words) calls p m v a w =
    bind (calls (symbol_of v.aux) (words_sent p (sig_of p.pkg (symbol_of v.aux)) (map m (without_memory v.args)) a.out) a.stack w)
    (λ results w. gives (record (with_given a v.id results) { out = λ k. 0 }) w)
done_by (Some out_word) calls p m v a w = gives (record a { out = put a.out (natural v.int) (m (slice_index v.args 0)) }) w
done_by (Some ret_word) calls p m v a w = gives (record a { back = put a.back (natural v.int) (m (slice_index v.args 0)) }) w
done_by (Some ret_words) calls p m v a w = gives (record a { regs = map m (without_memory v.args) }) w
done_by (Some trap) calls p m v a w = stops (trapped (natural v.int)) w.window
done_by (Some pass) calls p m v a w = gives a w
done_by None calls p m v a w = gives a w

-- memory is in the state that a value gives
abbrev pub in_state : ℕ → Activation → World → Activation
in_state s a w = record a { memory = s; env = record a.env { windows = put a.env.windows s w.window } }

abbrev pub done_at : Calls → Program → FuncRecord → ValueRecord → Activation → World → Run Activation
done_at calls p f v a w =
    bind (done_by (effect_of v.op.family v.ty) calls p (numbers p f a.env) v a w) (λ a w. gives (in_state v.id a w) w)

-- the memory values of a block one after the other, before each and after the last the checks and loads
abbrev pub performed : Calls → Program → FuncRecord → BlockRecord → List ValueRecord → Activation → World → Run Activation
performed calls p f b [] a w = checked_at p f b a w
performed calls p f b (v ∷ vs) a w =
    bind (checked_at p f b a w) (λ a w. bind (done_at calls p f v a w) (λ a w. performed calls p f b vs a w))

-- blocks

-- the number of a value that may be there, 0 where none is
abbrev pub number_named : (ℕ → ℕ) → Option ℕ → ℕ
number_named m None = 0
number_named m (Some id) = m id

-- a phi takes the number of its argument in the edge's place, 0 where it has none there, as in the entry
abbrev pub phi_by : Option ValueRecord → ℕ → (ℕ → ℕ) → ℕ → ℕ
phi_by None place m old = old
phi_by (Some v) place m old = of_origin (origin_of v.op.family)
  where
    of_origin : Origin → ℕ
    of_origin phi = number_named m (slice_get v.args place)
    of_origin _ = old

-- the state that a block begins with: its memory phi, in the entry the first state of all, else the state before it
abbrev pub is_first_state : Ty → Family → Bool
is_first_state ty op.Phi = is_mem ty
is_first_state ty op.InitMem = true
is_first_state ty _ = false

abbrev pub state_or : Option ValueRecord → ℕ → ℕ
state_or None s = s
state_or (Some v) s = v.id

abbrev pub first_state : BlockRecord → ℕ → ℕ
first_state b s = state_or (find (λ v. is_first_state v.ty v.op.family) b.values) s

-- a block is entered by an edge: its phis take their numbers all at once
abbrev pub entered : Program → FuncRecord → BlockRecord → ℕ → Activation → World → Activation
entered p f b place a w =
    in_state (first_state b a.memory) (record a { env = record a.env { phis = λ id. phi_by (value_in b.values id) place (numbers p f a.env) (a.env.phis id) } }) w

-- the number of the block at the end of an edge, and the edge's place among that block's predecessors: of several edges from
-- one block to another, the k-th among the successors has the k-th place among the predecessors
abbrev pub edge_place : BlockRecord → ℕ → Option BlockRecord → ℕ
edge_place b index None = 0
edge_place b index (Some c) = nth_place b.id (rank_in (Some b) index) c.preds

abbrev pub onto : Entries → ℕ → FuncRecord → BlockRecord → ℕ → Activation → World → Run (List ℕ)
onto enter i f b index a w =
    enter i a (slice_index b.succs index) (edge_place b index (block_of f (slice_index b.succs index))) w

-- the results of a function whose control is given: the numbers of the control's arguments, or the words given back
abbrev pub is_make_result : Family → Bool
is_make_result op.MakeResult = true
is_make_result _ = false

abbrev pub words_back : Program → FuncRecord → Activation → List ℕ
words_back p f a =
    a.regs
    ++ words_at a.back (length (p.places f.sig.args) + length a.regs) (length (p.places f.sig.results) - length a.regs)

abbrev pub results_by : Option ValueRecord → Program → FuncRecord → Activation → List ℕ
results_by None p f a = words_back p f a
results_by (Some v) p f a =
    if is_make_result v.op.family then map (numbers p f a.env) (without_memory v.args) else words_back p f a

abbrev pub value_named : FuncRecord → Option ℕ → Option ValueRecord
value_named f None = None
value_named f (Some id) = value_of f id

abbrev pub is_taken : Program → FuncRecord → Activation → Option ℕ → Bool
is_taken p f a None = false
is_taken p f a (Some id) = not (numbers p f a.env id % 2 == 0)

abbrev pub left_by : Kind → Entries → Program → ℕ → FuncRecord → BlockRecord → Activation → World → Run (List ℕ)
left_by Plain enter p i f b a w = onto enter i f b 0 a w
left_by First enter p i f b a w = onto enter i f b 0 a w
left_by If enter p i f b a w = if is_taken p f a b.control then onto enter i f b 0 a w else onto enter i f b 1 a w
left_by Ret enter p i f b a w = gives (results_by (value_named f b.control) p f a) w
left_by Exit enter p i f b a w = stops (trapped trap_exit) w.window

-- calls

abbrev pub Begun : Type 0
Begun = ℕ → List ℕ → ℕ → World → Run (List ℕ)

-- a call that begins: no phi has a number yet, no call gave anything, and no word is written
abbrev pub fresh : List ℕ → ℕ → Activation
fresh args stack = record {
  env = record { args = args; phis = λ n. 0; given = λ n. []; windows = λ n. [] };
  memory = 0;
  out = λ k. 0;
  back = λ k. 0;
  regs = [];
  stack = stack;
}

abbrev pub entry_id : List BlockRecord → ℕ
entry_id [] = 0
entry_id (b ∷ bs) = b.id

-- a call traps where its frame exceeds the stack left, before a block is entered
abbrev pub begun_in : Option FuncRecord → Entries → Program → Begun
begun_in None enter p i args stack w = stops (trapped trap_exit) w.window
begun_in (Some f) enter p i args stack w =
    if nat_lt stack (slice_index p.frames i)
    then stops (trapped trap_stack) w.window
    else enter i (fresh args (stack - slice_index p.frames i)) (entry_id f.blocks) 0 w

abbrev pub begun : Entries → Program → Begun
begun enter p i args stack w = begun_in (slice_get p.pkg.funcs i) enter p i args stack w

abbrev pub begun_at : Option ℕ → Begun → List ℕ → ℕ → World → Run (List ℕ)
begun_at None begin args stack w = stops (trapped trap_exit) w.window
begun_at (Some i) begin args stack w = begin i args stack w

abbrev pub called : Entries → Program → Calls
called enter p s args stack w =
    if s == panic_divide
    then stops (trapped trap_divide) w.window
    else (if s == panic_shift then stops (trapped trap_shift) w.window else begun_at (position (λ g. g.name == s) p.pkg.funcs) (begun enter p) args stack w)

-- runs

-- a block from its entry on
abbrev pub in_block : Option BlockRecord → Entries → Program → ℕ → FuncRecord → Activation → ℕ → World → Run (List ℕ)
in_block None enter p i f a place w = stops (trapped trap_exit) w.window
in_block (Some b) enter p i f a place w =
    let a = entered p f b place a w in
    bind (performed (called enter p) p f b (chain_from f b a.memory) a w) (left_by b.kind enter p i f b)

abbrev pub in_func : Option FuncRecord → Entries → Program → Entries
in_func None enter p i a id place w = stops (trapped trap_exit) w.window
in_func (Some f) enter p i a id place w = in_block (block_of f id) enter p i f a place w

abbrev pub at_count : ℕ → World → (World → Run (List ℕ)) → Run (List ℕ)
at_count zero w go = stops going w.window
at_count (suc n) w go = go (record w { left = n })

-- a run from the entry of a block, where enter gives the runs from the entries of the blocks after it
abbrev pub one_entry : Entries → Program → Entries
one_entry enter p i a id place w = at_count w.left w (in_func (slice_get p.pkg.funcs i) enter p i a id place)

-- runs that enter at most k blocks
unfoldable pub run : ℕ → Program → Entries
run zero p i a id place w = stops going w.window
run (suc k) p i a id place w = one_entry (run k p) p i a id place w

abbrev pub ended : Run (List ℕ) → Outcome × List ℕ
ended (gives results w) = (returned results, w.window)
ended (stops o d) = (o, d)

-- the numbers in the places of these types, each cut to its type
abbrev pub fitted_run : Program → List Ty → Run (List ℕ) → Run (List ℕ)
fitted_run p tys r = bind r (λ results w. gives (fitted p.target (p.places tys) results) w)

-- the outcome and the data window of the function at a place of the package, on numbers, with the bytes of a data window
-- and of the stack left, and the count of blocks that may be entered
abbrev pub meaning : Program → ℕ → List ℕ → List ℕ → ℕ → ℕ → Outcome × List ℕ
meaning p i args window stack n =
    let sig = sig_of_some (slice_get p.pkg.funcs i) in
    ended
    (fitted_run p sig.results (begun (run n p) p i (fitted p.target (p.places sig.args) args) stack (record { window = window; left = n })))
