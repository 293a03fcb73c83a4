-- A run of a package: calls that are under way, one upon the other.
use Rattle.std.specs.Prelude.{◌≡◌, ℕ, ◌+◌, ◌-◌, ◌<◌, ◌≤◌, Bool, true, false, List, [], ◌∷◌, ◌++◌, length, take, drop, slice_get, slice_index, slice_set, replicate, nat_lt, Option, Some, None, MatchOption, Vec}
use Rattle.std.specs.declared.alloc.Global.{Global}
use Rattle.bk_ops.specs.declared.types.Target.{Target}
use Rattle.bk_func.specs.Records.{SigRecord, BlockRecord, FuncRecord, PackageRecord}
use Rattle.bk_func.specs.Meaning.{Outcome, returned, trapped, wild, going}
use Rattle.bk_ops.specs.declared.family.Family.{Family}
use Rattle.bk_ops.specs.declared.family.Family.TheVariants as op
use Rattle.bk_func.specs.Words.{words_at}
use Rattle.bk_func.specs.Numbers.{cut_result}
use Rattle.bk_mean.specs.declared.machine.Activation.{Activation}
use Rattle.bk_mean.specs.declared.machine.Machine.{Machine}
use Rattle.bk_mean.specs.declared.ready.Ready.{Ready}
use Rattle.bk_mean.specs.declared.ready.Kept.{Kept}
use Rattle.bk_mean.specs.declared.ready.ReadyBlock.{ReadyBlock}
use Rattle.bk_mean.specs.declared.turn.Next.{Next}
use Rattle.bk_mean.specs.declared.turn.Next.TheVariants as next
use Rattle.bk_mean.specs.declared.step.CallWords.{CallWords}
use Rattle.bk_mean.specs.declared.symbols.Callee.{Callee}
use Rattle.bk_mean.specs.declared.symbols.Callee.TheVariants.{Func, PanicDivide, PanicShift, Missing}
use Rattle.bk_mean.specs.declared.symbols.Symbols.{Symbols}
use Rattle.bk_mean.specs.Ready.{IsReady}
use Rattle.bk_mean.specs.Symbols.{IsNaming}
use Rattle.bk_mean.specs.declared.words.Words.{Words}
use Rattle.bk_mean.specs.Seen.{word_in}
use Rattle.bk_mean.specs.Left.{GoesOn}

-- what calls work on: the data window, the numbers at hand, and those of the calls
pub record Store : Type 0 where
  pub window : List ℕ
  pub hand : List ℕ
  pub numbers : List ℕ

-- what a run has: that and the calls, the one that runs last
pub record Held : Type 0 where
  pub window : List ℕ
  pub hand : List ℕ
  pub numbers : List ℕ
  pub calls : List Activation

abbrev pub stored : Held → Store
stored h = record { window = h.window; hand = h.hand; numbers = h.numbers }

-- which result a number beside an op says, of a function that takes so many arguments
abbrev pub index_of : Family → ℕ → ℕ → ℕ
index_of op.ResWord n count = n - count
index_of _ n count = n

-- the number of a value that keeps a result
abbrev pub kept_number : Target → ℕ → Kept → List ℕ → ℕ
kept_number t count k given = cut_result k.family t k.ty (slice_index given (index_of k.family k.index count))

-- what is kept of the results of a call, put in its places from the first on
abbrev pub keep_all : Target → ℕ → ℕ → List Kept → List ℕ → List ℕ → List ℕ
keep_all t count first [] given numbers = numbers
keep_all t count first (k ∷ ks) given numbers = keep_all t count first ks given (slice_set numbers (first + k.place) (kept_number t count k given))

-- what a run has
abbrev pub held : Machine → Held
held m = record { window = m.window.items; hand = m.hand.items; numbers = m.numbers.items; calls = m.calls.items }

-- the call on top of others
abbrev pub top : List Activation → Option Activation
top cs = slice_get cs (length cs - 1)

-- a call goes on until its block is left
pub record MovesOn (t : Target) (f : FuncRecord) (r : Ready) (c d : Activation) (a b : Store) (x : Next) : Type 0 where
  pub last : List ℕ
  pub on : (k : BlockRecord) (s : ReadyBlock) → slice_get f.blocks c.block ≡ Some k → slice_get r.blocks.items c.block ≡ Some s
      → length r.values.items < length (drop c.base a.numbers)
      → GoesOn t f r k s (record { call = c; numbers = drop c.base a.numbers; hand = a.hand }) (record { call = d; numbers = last; hand = b.hand }) a.window b.window x
  pub numbers : b.numbers ≡ take c.base a.numbers ++ last

abbrev pub Moved : Target → PackageRecord → List (Option Ready) → Activation → Activation → Store → Store → Next → Type 0
Moved t p readies c d a b x =
    (f : FuncRecord) (r : Ready) → slice_get p.funcs c.func ≡ Some f → slice_get readies c.func ≡ Some (Some r) → c.base ≤ length a.numbers → MovesOn t f r c d a b x

-- a call of the function ends: the results stay at hand, and go to the values of the caller that keep them, if there is one
abbrev pub Ended : Target → PackageRecord → List (Option Ready) → Option Activation → Activation → Held → Held → Type 0
Ended t p readies None d a b = b.hand ≡ a.hand
Ended t p readies (Some c) d a b =
    (f : FuncRecord) (r : Ready) (kept : Vec Kept Global) → slice_get p.funcs d.func ≡ Some f → slice_get readies c.func ≡ Some (Some r) → slice_get r.kept.items c.called_by ≡ Some kept
    → b.numbers ≡ keep_all t (length f.sig.args) c.base kept.items a.hand (take d.base a.numbers)

-- the run goes on until a block is entered, a function is called or the run ends
pub data Advanced (t : Target) (p : PackageRecord) (readies : List (Option Ready)) : Held → Held → Next → Type 0 where
  none : (a : Held) → a.calls ≡ [] → Advanced t p readies a a next.Return
  on : (a b : Held) (cs : List Activation) (c d : Activation) (x : Next) → a.calls ≡ cs ++ c ∷ [] → b.calls ≡ cs ++ d ∷ [] → Moved t p readies c d (stored a) (stored b) x
      → ¬ (x ≡ next.Return) → Advanced t p readies a b x
  back : (a m b e : Held) (cs : List Activation) (c d : Activation) (x : Next) → a.calls ≡ cs ++ c ∷ [] → b.calls ≡ cs → Moved t p readies c d (stored a) (stored m) next.Return
      → Ended t p readies (top cs) d m b → b.window ≡ m.window → Advanced t p readies b e x → Advanced t p readies a e x

-- the words that were written for a call are taken behind those at hand, so many in all
pub record TakesWords (count : ℕ) (a b : Held) : Type 0 where
  pub window : b.window ≡ a.window
  pub numbers : b.numbers ≡ a.numbers
  pub hand : (cs : List Activation) (c : Activation) → a.calls ≡ cs ++ c ∷ [] → b.hand ≡ a.hand ++ words_at (word_in c.words.out) (length a.hand) (count - length a.hand)
  pub calls : (cs : List Activation) (c : Activation) → a.calls ≡ cs ++ c ∷ []
      → (w : Words) × ((k : ℕ) → word_in w k ≡ 0) × (b.calls ≡ cs ++ (record c { words = record { out = w; back = c.words.back; regs = c.words.regs } }) ∷ [])

-- a call of a function begins on the numbers at hand
pub record Begun (func : ℕ) (values stack : ℕ) (a b : Held) : Type 0 where
  pub window : b.window ≡ a.window
  pub numbers : b.numbers ≡ a.numbers ++ (replicate (values + 1) 0 ++ a.hand)
  pub words : CallWords
  pub calls : b.calls ≡ a.calls ++ (record { func = func; base = length a.numbers; block = 0; next = 0; called_by = 0; stack = stack; words = words }) ∷ []
  pub out : (k : ℕ) → word_in words.out k ≡ 0
  pub back : (k : ℕ) → word_in words.back k ≡ 0
  pub regs : words.regs.items ≡ []

-- the stack that is left to a call
abbrev pub stack_left : Option Activation → ℕ → ℕ
stack_left None start = start
stack_left (Some c) start = c.stack

-- the functions that were made ready are so as the package has them
pub record AreReady (p : PackageRecord) (readies : List (Option Ready)) : Type 0 where
  pub size : length readies ≡ length p.funcs
  pub each : (i : ℕ) (f : FuncRecord) (r : Ready) → slice_get p.funcs i ≡ Some f → slice_get readies i ≡ Some (Some r) → IsReady p f r

-- one more function is made ready, if it is not
pub record MakesReady (s : Symbols) (f : FuncRecord) (place : ℕ) (old new : List (Option Ready)) : Type 0 where
  pub grows : (i : ℕ) (r : Ready) → slice_get old i ≡ Some (Some r) → slice_get new i ≡ Some (Some r)
  pub there : place < length old → (r : Ready) × (slice_get new place ≡ Some (Some r))
  pub ready : (p : PackageRecord) → IsNaming p s → slice_get p.funcs place ≡ Some f → AreReady p old → AreReady p new

-- a call takes the numbers at hand, on words also those that were written for it, so many in all
abbrev pub Takes : Bool → ℕ → Held → Held → Type 0
Takes true count a b = TakesWords count a b
Takes false count a b = b ≡ a

-- a call of a function that is ready begins with so many bytes of stack left to it
pub record Opens (place : ℕ) (g : SigRecord) (r : Ready) (stack : ℕ) (on_words : Bool) (a b : Held) : Type 0 where
  pub taken : Held
  pub takes : Takes on_words (length g.args) a taken
  pub begun : Begun place (length r.values.items) stack taken b

-- a call of the function at a place begins, or traps where its frame exceeds the stack
pub record Starts (t : Target) (p : PackageRecord) (frames : List ℕ) (place start : ℕ) (on_words : Bool) (old new : List (Option Ready)) (a b : Held) (trap : Option ℕ) : Type 0 where
  pub full : nat_lt (stack_left (top a.calls) start) (slice_index frames place) ≡ true → (trap ≡ Some 5) × (b.window ≡ a.window)
  pub room : nat_lt (stack_left (top a.calls) start) (slice_index frames place) ≡ false → trap ≡ None
  pub opens : (f : FuncRecord) (r : Ready) → nat_lt (stack_left (top a.calls) start) (slice_index frames place) ≡ false → slice_get p.funcs place ≡ Some f → slice_get new place ≡ Some (Some r)
      → Opens place f.sig r (stack_left (top a.calls) start - slice_index frames place) on_words a b
  pub there : nat_lt (stack_left (top a.calls) start) (slice_index frames place) ≡ false → place < length old → (r : Ready) × (slice_get new place ≡ Some (Some r))
  pub grows : (i : ℕ) (r : Ready) → slice_get old i ≡ Some (Some r) → slice_get new i ≡ Some (Some r)
  pub ready : AreReady p old → AreReady p new

-- what is called begins, or traps
abbrev pub Calls : Target → PackageRecord → List ℕ → ℕ → Callee → Bool → List (Option Ready) → List (Option Ready) → Held → Held → Option ℕ → Type 0
Calls t p frames start (Func i) on_words old new a b trap = i < length p.funcs → Starts t p frames i start on_words old new a b trap
Calls t p frames start PanicDivide on_words old new a b trap = (trap ≡ Some 3) × (b.window ≡ a.window)
Calls t p frames start PanicShift on_words old new a b trap = (trap ≡ Some 4) × (b.window ≡ a.window)
Calls t p frames start Missing on_words old new a b trap = (trap ≡ Some 6) × (b.window ≡ a.window)

-- how a run ends that may enter so many blocks, and its data window then
pub data RunsTo (t : Target) (p : PackageRecord) (frames : List ℕ) (start : ℕ) : ℕ → List (Option Ready) → Held → Outcome → List ℕ → Type 0 where
  spent : (rs : List (Option Ready)) (a : Held) → RunsTo t p frames start 0 rs a going a.window
  enters : (m n : ℕ) (rs : List (Option Ready)) (a b : Held) (o : Outcome) (w : List ℕ) → m ≡ n + 1 → Advanced t p rs a b next.Enter → RunsTo t p frames start n rs b o w → RunsTo t p frames start m rs a o w
  calls : (m n : ℕ) (rs qs : List (Option Ready)) (a b c : Held) (what : Callee) (on_words : Bool) (o : Outcome) (w : List ℕ) → m ≡ n + 1 → Advanced t p rs a b (next.Call what on_words)
      → Calls t p frames start what on_words rs qs b c None → RunsTo t p frames start n qs c o w → RunsTo t p frames start m rs a o w
  fails : (m n : ℕ) (rs qs : List (Option Ready)) (a b c : Held) (what : Callee) (on_words : Bool) (trap : ℕ) → m ≡ n + 1 → Advanced t p rs a b (next.Call what on_words)
      → Calls t p frames start what on_words rs qs b c (Some trap) → RunsTo t p frames start m rs a (trapped trap) c.window
  traps : (m n : ℕ) (rs : List (Option Ready)) (a b : Held) (trap : ℕ) → m ≡ n + 1 → Advanced t p rs a b (next.Trap trap) → RunsTo t p frames start m rs a (trapped trap) b.window
  wilds : (m n : ℕ) (rs : List (Option Ready)) (a b : Held) (address : ℕ) → m ≡ n + 1 → Advanced t p rs a b (next.Wild address) → RunsTo t p frames start m rs a (wild address) b.window
  returns : (m n : ℕ) (rs : List (Option Ready)) (a b : Held) → m ≡ n + 1 → Advanced t p rs a b next.Return → RunsTo t p frames start m rs a (returned b.hand) b.window

-- how a run of the function at a place ends
pub record RunsAll (t : Target) (p : PackageRecord) (frames : List ℕ) (place start bound : ℕ) (rs : List (Option Ready)) (a : Held) (o : Outcome) (w : List ℕ) : Type 0 where
  pub readies : List (Option Ready)
  pub begun : Held
  pub trap : Option ℕ
  pub starts : Starts t p frames place start false rs readies a begun trap
  pub runs : MatchOption trap (RunsTo t p frames start bound readies begun o w) (λ k. (o ≡ trapped k) × (w ≡ begun.window))

-- no function of so many is ready
pub record NoneReady (count : ℕ) (readies : List (Option Ready)) : Type 0 where
  pub size : length readies ≡ count
  pub none : (i : ℕ) (r : Ready) → ¬ (slice_get readies i ≡ Some (Some r))
