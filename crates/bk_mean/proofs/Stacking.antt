-- Calls upon calls: what a machine has of each, and what it means.
use Rattle.std.proofs.Common.{◌≡◌, ℕ, ◌≤◌, ◌⊎◌, List, [], ◌∷◌, ◌++◌, length, drop, Option, Some, Bool, true, false}
use Rattle.std.specs.Prelude.{slice_get, Vec}
use Rattle.std.specs.declared.alloc.Global.{Global}
use Rattle.bk_func.specs.Records.{ValueRecord, BlockRecord, FuncRecord}
use Rattle.bk_func.specs.Numbers.{Program, values_of}
use Rattle.bk_func.specs.Effects.{call, call_words, effect_of}
use Rattle.bk_func.specs.Symbols.{sig_of, symbol_of}
use Rattle.bk_func.specs.Meaning.{World, Run, Activation, first_state, entered, run as runs, called, words_sent}
use Rattle.bk_func.specs.Form.{IsFormed}
use Rattle.bk_func.specs.Form.Text.{HasValue}
use Rattle.bk_func.specs.Form.Signatures.{Setting, whole}
use Rattle.bk_func.proofs.Faults.{In}
use Rattle.bk_mean.specs.Numbering.{place_in}
use Rattle.bk_mean.specs.Ready.{AreReadyValues, AreReadyBlocks, kept_by}
use Rattle.bk_mean.specs.Seen.{word_in}
use Rattle.bk_mean.specs.Turned.{Ground}
use Rattle.bk_mean.specs.Running.{Held}
use Rattle.bk_mean.specs.declared.machine.Activation.{Activation as Active}
use Rattle.bk_mean.specs.declared.ready.Kept.{Kept}
use Rattle.bk_mean.specs.declared.ready.Ready.{Ready}
use Rattle.bk_mean.specs.declared.ready.ReadyBlock.{ReadyBlock}
use Rattle.bk_mean.specs.declared.step.CallWords.{CallWords}
use Rattle.bk_mean.specs.declared.symbols.Callee.{Callee}
use Rattle.bk_mean.specs.Symbols.{callee_of}
use Rattle.bk_mean.proofs.Arranged.{due_level, due_class, values_at}
use Rattle.bk_mean.proofs.Walked.{Arrives}
use Rattle.bk_mean.proofs.Knowing.{IsResultOf}
use Rattle.bk_mean.proofs.Doing.{Order, IsAt}
use Rattle.bk_mean.proofs.Resuming.{Frame, inside, resume}

-- what is kept of the results of a call: those values that take them, each by its place
pub record KeepsResults (f : FuncRecord) (b : BlockRecord) (v : ValueRecord) (ks : List Kept) : Type 0 where
  pub all : (u : ValueRecord) → IsResultOf f b v u → In (kept_by f u) ks
  pub only : (k : Kept) → In k ks → (u : ValueRecord) × IsResultOf f b v u × (k ≡ kept_by f u)

-- a function in form that was made ready
pub record Learnt (p : Program) (readies : List (Option Ready)) (i : ℕ) (f : FuncRecord) (r : Ready) : Type 0 where
  pub places : p.places ≡ whole
  pub func : slice_get p.pkg.funcs i ≡ Some f
  pub ready : slice_get readies i ≡ Some (Some r)
  pub set : Setting
  pub formed : IsFormed set f
  pub values : AreReadyValues p.pkg f (values_of f) r.values.items
  pub kept : (b : BlockRecord) (v : ValueRecord) → HasValue f b v → (effect_of v.op.family v.ty ≡ Some call) ⊎ (effect_of v.op.family v.ty ≡ Some call_words) →
      (ks : Vec Kept Global) × (slice_get r.kept.items (place_in f v.id) ≡ Some ks) × KeepsResults f b v ks.items
  pub blocks : AreReadyBlocks f f.blocks (length f.blocks) r.blocks.items
  pub order : (j : ℕ) (b : BlockRecord) (c : ReadyBlock) → slice_get f.blocks j ≡ Some b → slice_get r.blocks.items j ≡ Some c → (m : ℕ) → Arrives f b m →
      Order set f b m (due_level f b (first_state b m)) due_class (values_at b.values c.order.items)

abbrev pub ground : Program → List ℕ → Ground
ground p args = record { target = p.target; args = args }

-- a call is in a block, where some values were done and others are left
pub record Sits (p : Program) (readies : List (Option Ready)) (k i : ℕ) (f : FuncRecord) (b : BlockRecord) (m : ℕ) (pre rest : List ValueRecord) (c : Active) (front args : List ℕ) (words : CallWords) (window : List ℕ) (a : Activation) (w : World) : Type 0 where
  pub ready : Ready
  pub learnt : Learnt p readies i f ready
  pub func : c.func ≡ i
  pub block : slice_get f.blocks c.block ≡ Some b
  pub course : ReadyBlock
  pub its : slice_get ready.blocks.items c.block ≡ Some course
  pub arrives : Arrives f b m
  pub parts : values_at b.values course.order.items ≡ pre ++ rest
  pub at : IsAt p f b m (ground p args) pre (record { numbers = front; window = window; words = words }) a w
  pub stack : c.stack ≡ a.stack
  pub fuel : w.left ≤ k

-- a call waits in a block for what a function gives
pub record Suspended (p : Program) (readies : List (Option Ready)) (fr : Frame) (c : Active) (front args : List ℕ) (words : CallWords) (window : List ℕ) (world : World) : Type 0 where
  pub m : ℕ
  pub pre : List ValueRecord
  pub sits : Sits p readies fr.fuel fr.place fr.func fr.block m pre (fr.value ∷ fr.rest) c front args words window fr.act world
  pub left : fr.rest ≡ values_at fr.block.values (drop c.next sits.course.order.items)
  pub stands : HasValue fr.func fr.block fr.value
  pub by : c.called_by ≡ place_in fr.func fr.value.id

-- its words: those that were written for the call are taken
abbrev pub WordsTaken : Frame → CallWords → CallWords → Type 0
WordsTaken fr before now =
    ((effect_of fr.value.op.family fr.value.ty ≡ Some call) × (now ≡ before))
    ⊎ ((effect_of fr.value.op.family fr.value.ty ≡ Some call_words) × ((k : ℕ) → word_in now.out k ≡ 0) × (now.back ≡ before.back) × (now.regs ≡ before.regs))

pub record IsWaiting (p : Program) (readies : List (Option Ready)) (n : ℕ) (fr : Frame) (c : Active) (front args : List ℕ) (callee : FuncRecord) : Type 0 where
  pub window : List ℕ
  pub world : World
  pub words : CallWords
  pub waits : Suspended p readies fr c front args words window world
  pub taken : WordsTaken fr words c.words
  pub sig : sig_of p.pkg (symbol_of fr.value.aux) ≡ callee.sig
  pub fuel : n ≤ fr.fuel

-- calls that wait, one upon the other, the last of them for what a function gives
pub data Stacked (p : Program) (readies : List (Option Ready)) (n : ℕ) : List Frame → List Active → List ℕ → FuncRecord → Type 0 where
  bottom : (g : FuncRecord) → Stacked p readies n [] [] [] g
  more : (frs : List Frame) (cs : List Active) (ns : List ℕ) (fr : Frame) (c : Active) (front args : List ℕ) (g : FuncRecord) → Stacked p readies n frs cs ns fr.func →
      c.base ≡ length ns → IsWaiting p readies n fr c front args g → Stacked p readies n (fr ∷ frs) (cs ++ c ∷ []) (ns ++ (front ++ args)) g

-- a machine is inside a block
pub record Within (p : Program) (readies : List (Option Ready)) (n : ℕ) (h : Held) (r : Run (List ℕ)) : Type 0 where
  pub frames : List Frame
  pub calls : List Active
  pub numbers : List ℕ
  pub top : Active
  pub front : List ℕ
  pub args : List ℕ
  pub k : ℕ
  pub i : ℕ
  pub f : FuncRecord
  pub b : BlockRecord
  pub m : ℕ
  pub pre : List ValueRecord
  pub rest : List ValueRecord
  pub act : Activation
  pub world : World
  pub has_calls : h.calls ≡ calls ++ top ∷ []
  pub has_numbers : h.numbers ≡ numbers ++ (front ++ args)
  pub base : top.base ≡ length numbers
  pub stacked : Stacked p readies n frames calls numbers f
  pub sits : Sits p readies k i f b m pre rest top front args top.words h.window act world
  pub next : rest ≡ values_at b.values (drop top.next sits.course.order.items)
  pub run : r ≡ resume p frames (inside p i f b k rest act world)
  pub left : world.left ≡ n

-- a machine is at the entry of a block
pub record Heads (p : Program) (readies : List (Option Ready)) (n : ℕ) (h : Held) (r : Run (List ℕ)) : Type 0 where
  pub frames : List Frame
  pub calls : List Active
  pub numbers : List ℕ
  pub top : Active
  pub front : List ℕ
  pub args : List ℕ
  pub k : ℕ
  pub i : ℕ
  pub f : FuncRecord
  pub b : BlockRecord
  pub place : ℕ
  pub rest : List ValueRecord
  pub act : Activation
  pub world : World
  pub has_calls : h.calls ≡ calls ++ top ∷ []
  pub has_numbers : h.numbers ≡ numbers ++ (front ++ args)
  pub base : top.base ≡ length numbers
  pub stacked : Stacked p readies n frames calls numbers f
  pub sits : Sits p readies k i f b act.memory [] rest top front args top.words h.window (entered p f b place act world) world
  pub next : rest ≡ values_at b.values (drop top.next sits.course.order.items)
  pub run : r ≡ resume p frames (runs k p i act b.id place world)
  pub left : world.left ≡ n

-- a machine calls a function: the call that waits for it is on top
pub record Calling (p : Program) (readies : List (Option Ready)) (n : ℕ) (h : Held) (r : Run (List ℕ)) (what : Callee) (on_words : Bool) : Type 0 where
  pub frame : Frame
  pub frames : List Frame
  pub calls : List Active
  pub numbers : List ℕ
  pub top : Active
  pub front : List ℕ
  pub args : List ℕ
  pub world : World
  pub has_calls : h.calls ≡ calls ++ top ∷ []
  pub has_numbers : h.numbers ≡ numbers ++ (front ++ args)
  pub base : top.base ≡ length numbers
  pub stacked : Stacked p readies n frames calls numbers frame.func
  pub waits : Suspended p readies frame top front args top.words h.window world
  pub callee : what ≡ callee_of p.pkg (symbol_of frame.value.aux)
  pub given : List ℕ
  pub run : r ≡ resume p (frame ∷ frames) (called (runs frame.fuel p) p (symbol_of frame.value.aux) given frame.act.stack world)
  pub how : ((effect_of frame.value.op.family frame.value.ty ≡ Some call) × (on_words ≡ false) × (h.hand ≡ given))
      ⊎ ((effect_of frame.value.op.family frame.value.ty ≡ Some call_words) × (on_words ≡ true) × (given ≡ words_sent p (sig_of p.pkg (symbol_of frame.value.aux)) h.hand frame.act.out))
  pub fuel : n ≤ frame.fuel
  pub left : world.left ≡ n
