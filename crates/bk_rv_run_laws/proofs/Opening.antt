-- A call that begins.
use Rattle.std.proofs.Common.{◌≡◌, ℕ, ◌+◌, ◌-◌, ◌*◌, ◌^◌, ◌<◌, ◌≤◌, List, length, ap, ◌∙◌, sym, subst, refl, arith, Option, Some, None, Bool, true, false, cond, inr}
use Rattle.std.specs.Prelude.{slice_get, slice_index, nat_lt, unwrap_or, take, drop}
use Rattle.std.proofs.lemmas.Bool.Decides.{nat_tests}
use Rattle.bk_num.proofs.Bytes.{load_is}
use Rattle.bk_num.specs.Bytes.{number}
use Rattle.bk_func.specs.Records.{BlockRecord, FuncRecord}
use Rattle.bk_func.specs.Numbers.{Program, numbers}
use Rattle.bk_func.specs.Meaning.{World, Entries, trapped, stops, entered, entry_id, fresh, begun_in}
use Rattle.bk_func.specs.Traps.{trap_stack}
use Rattle.bk_rv_isa.specs.Machine.{Machine, IsPlaced, HasAt, reg, load}
use Rattle.bk_rv_isa.proofs.Memory.{load_stack}
use Rattle.bk_emit.specs.declared.blocks.Frame.{Frame}
use Rattle.bk_emit.specs.declared.blocks.Spot.{Spot}
use Rattle.bk_emit.specs.declared.blocks.Spot.TheVariants.{Register, Word}
use Rattle.bk_rv_emit.specs.Blocks.{entry}
use Rattle.bk_rv_emit_laws.specs.Octets.{AreBytes}
use Rattle.bk_rv_emit_laws.specs.Frames.{IsFrame, Holds, word_address}
use Rattle.bk_rv_emit_laws.specs.Steps.{IsSpot}
use Rattle.bk_rv_emit_laws.specs.Calls.{Enters}
use Rattle.bk_rv_emit_laws.proofs.Below.{loads_are_below}
use Rattle.bk_rv_emit_laws.proofs.Entry.{entry_enters, entry_traps}
use Rattle.bk_run_laws.specs.Follows.{Follows}
use Rattle.bk_run_laws.specs.Standing.{EntryLaw}
use Rattle.bk_run_laws.proofs.Following.{follows_after, follows_map}
use Rattle.bk_rv_run_laws.specs.Relation.{Image, Call, IsUnderWay, IsBack, Beside, riscv64, standing}
use Rattle.bk_rv_run_laws.specs.Calling.{IsCalled, IsArgument, Opens, CallsFollow}
use Rattle.bk_rv_run_laws.proofs.Besides.{back_behind}

-- what the places of a frame hold, whatever that is
held : Frame → ℕ → Machine → Spot → ℕ
held f sp m (Register r) = reg m.regs r
held f sp m (Word n) = unwrap_or (load m 8 (word_address f sp n)) 0

known : (o : Option ℕ) (v : ℕ) → o ≡ Some v → o ≡ Some (unwrap_or o 0)
known None v h = absurd cc
known (Some x) v h = refl

below_of : (o : Option ℕ) (v b : ℕ) → o ≡ Some v → v < b → unwrap_or o 0 < b
below_of None v b h l = absurd cc
below_of (Some x) v b h l = let e : x ≡ v = cc in omega (arith, e, l)

-- a word of the stack
abbrev word_at : Machine → ℕ → ℕ
word_at m a = number (take 8 (drop (a - m.bottom) m.stack))

record InStack (m : Machine) (a : ℕ) : Type 0 where
  is : load m 8 a ≡ Some (word_at m a)
  low : word_at m a < 2 ^ 64

in_stack : (m : Machine) (a : ℕ) → IsPlaced m → AreBytes m.stack → m.bottom ≤ a → a + 8 ≤ m.bottom + length m.stack → InStack m a
in_stack m a p bytes h k =
    let e = load_is m.bottom 8 a m.stack h k in
    let l = loads_are_below m.bottom 8 a (word_at m a) m.stack bytes e in
    record { is = load_stack m 8 a p h (omega arith) ∙ e; low = omega (arith, l) }

holds_held : (f : Frame) (sp : ℕ) (m : Machine) → IsFrame f sp m → AreBytes m.stack → Holds f sp m (held f sp m)
unfolding held
holds_held f sp m g bytes = record {
  registers = λ r h. refl;
  words = λ n h. known (load m 8 (word_address f sp n)) (word_at m (word_address f sp n)) (word n h).is;
  fit = λ n h. below_of (load m 8 (word_address f sp n)) (word_at m (word_address f sp n)) (2 ^ 64) (word n h).is (word n h).low;
}
  where
    word : (n : ℕ) → n ≤ f.slots → InStack m (word_address f sp n)
    word n h = let a = g.low in let b = g.high in let c = g.room in in_stack m (word_address f sp n) g.placed bytes (omega (arith, a)) (omega (arith, b, c, h))

-- the machine behind the entry is at the first block
opened : (x : Image) (p : Program) (i : ℕ) (f : FuncRecord) (args : List ℕ) (stack : ℕ) (w : World) (back sp : ℕ) (m : Machine) (o : Opens x p i f) → length args ≡ (x.shape i).args →
    IsCalled x i args stack w.window back sp m → (x.shape i).frame.bytes ≤ stack → (e : Enters (x.shape i).frame.bytes m) →
    IsUnderWay x p i f (entry_id f.blocks) (entered p f o.block 0 (fresh args (stack - (x.shape i).frame.bytes)) w) w.window (record { home = back; sp = sp - (x.shape i).frame.bytes }) e.after
unfolding held
opened x p i f args stack w back sp m o long c high e =
    let z = x.shape i in
    let fr = z.frame in
    let size : ℕ = fr.bytes in
    let own : ℕ = sp - size in
    let l = c.left in
    let l1 = l.pointer in
    let l2 = l.inside in
    let l3 = l.small in
    let point = c.pointer in
    let room = o.room in
    let placed = c.placed in
    let p1 = placed.pool in
    let p2 = placed.window in
    let kp = ap length e.pool in
    let kw = ap length e.window in
    let kb = e.bottom in
    let kl = e.long in
    let ep = e.pointer in
    let up : own + size ≡ sp = omega (arith, l1, point, high) in
    let text : e.after.text ≡ x.text = e.text ∙ c.text in
    let bytes = c.bytes in
    let stack_bytes : AreBytes e.after.stack = e.bytes bytes.stack in
    let frame : IsFrame fr own e.after = record {
      placed = record { pool = omega (arith, kp, p1); window = omega (arith, kw, kb, p2) };
      well = e.well;
      pointer = omega (arith, ep, point, up);
      low = omega (arith, kb, l1, point, high);
      high = omega (arith, kb, kl, l1, l2, point, up);
      room = room;
      small = omega (arith, l1, l2, l3, point, up);
      text = subst (λ t. length t < 2 ^ 26) (sym text) o.text;
    } in
    record {
      pc = e.pc ∙ ap (λ a. a + 4 * length (entry size)) c.pc ∙ sym o.first;
      inside = record {
        text = text;
        pool = e.pool ∙ c.pool;
        bytes = record { window = subst AreBytes (sym e.window) bytes.window; stack = stack_bytes; pool = subst AreBytes (sym e.pool) bytes.pool };
        frame = frame;
        holds = held fr own e.after;
        held = holds_held fr own e.after frame stack_bytes;
        values = record { each = values };
        window = e.window ∙ c.window;
        left = record {
          bound = e.others 27 (λ q. omega (arith, q)) (λ q. omega (arith, q)) ∙ l.bound ∙ sym e.bottom;
          pointer = omega (arith, kb, l1, ep, high);
          inside = omega (arith, kl, l2);
          small = omega (arith, kb, kl, l3);
        };
        return = ap (λ a. load e.after 8 a) (let q : own + size - 8 ≡ reg m.regs 2 - 8 = omega (arith, up, point) in q) ∙ e.saved ∙ ap Some c.return;
        home = c.home;
        given = record {
          each = λ k t.
              let g = o.given k t in
              let g0 = g.0 in
              let g1 = g.1 in
              let up2 : own + size + 8 * k ≡ sp + 8 * k = omega (arith, up) in
              ap (λ a. load e.after 8 a) up2 ∙ e.apart 8 (sp + 8 * k) (inr (omega (arith, point))) ∙ c.high k g0 (omega (arith, g1, long));
        };
        out = record { each = λ k t. let q : false ≡ true = sym (o.out k) ∙ t in absurd cc };
        back = record { each = λ k t. let q : false ≡ true = sym (o.back k) ∙ t in absurd cc };
      };
    }
  where
    argument : (b : BlockRecord) (k id : ℕ) → IsArgument p f b (x.shape i).args k id → reg e.after.regs (10 + k) ≡ numbers p f (entered p f b 0 (fresh args (stack - (x.shape i).frame.bytes)) w).env id
    argument b k id a =
        let a0 = a.low in
        let a1 = a.some in
        e.others (10 + k) (λ q. omega (arith, q)) (λ q. omega (arith, q, a0))
        ∙ c.low k a0 (omega (arith, a1, long))
        ∙ sym (a.number args (stack - (x.shape i).frame.bytes) w long)

    values : (s : Spot) (id : ℕ) → IsSpot (x.shape i).frame s → (x.shape i).at (entry_id f.blocks) s ≡ Some id →
        held (x.shape i).frame (sp - (x.shape i).frame.bytes) e.after s ≡ numbers p f (entered p f o.block 0 (fresh args (stack - (x.shape i).frame.bytes)) w).env id
    values s id h q =
        let a = o.at s id q in
        ap (held (x.shape i).frame (sp - (x.shape i).frame.bytes) e.after) (a.1) ∙ argument o.block (a.0) id (a.2)

-- the entry changes nothing above the words of the call
beside_entry : (limit f : ℕ) (m : Machine) → reg m.regs 2 ≤ limit → (e : Enters f m) → Beside limit m e.after
beside_entry limit f m h e = record {
  bound = e.others 27 (λ q. omega (arith, q)) (λ q. omega (arith, q));
  above = λ width a l. e.apart width a (inr (omega (arith, h, l)));
  text = e.text;
  pool = e.pool;
  bottom = e.bottom;
  long = e.long;
}

under : (a b : ℕ) → nat_lt a b ≡ true → a < b
under a b h = grind (arith, nat_tests)

over : (a b c : ℕ) → nat_lt a b ≡ false → b ≡ c → c ≤ a
over a b c h e = grind (arith, nat_tests)

begun_by : (t : Bool) (x : Image) (p : Program) (enter : Entries) (k : ℕ) → EntryLaw riscv64 (standing x p) enter k p →
    (i : ℕ) (f : FuncRecord) (args : List ℕ) (stack : ℕ) (window : List ℕ) (left back sp : ℕ) (m : Machine) → nat_lt stack (slice_index p.frames i) ≡ t →
    slice_get p.pkg.funcs i ≡ Some f → Opens x p i f → length args ≡ (x.shape i).args → left ≤ k → IsCalled x i args stack window back sp m →
    Follows riscv64 (List ℕ) x.blocks 0 (record { window = window; left = left }) m (IsBack (x.shape i).args (x.shape i).words back sp m)
    (cond t (stops (trapped trap_stack) window) (enter i (fresh args (stack - slice_index p.frames i)) (entry_id f.blocks) 0 (record { window = window; left = left })))
begun_by true x p enter k law i f args stack window left back sp m t ef o long l c =
    let size = (x.shape i).frame.bytes in
    let fr = o.frame in
    let less : stack < slice_index p.frames i = under stack (slice_index p.frames i) t in
    let code : HasAt m.text m.pc (entry size) = subst (λ q. HasAt q m.pc (entry size)) (sym c.text) (subst (λ q. HasAt x.text q (entry size)) (sym c.pc) o.code) in
    let r = entry_traps size stack m c.well c.placed c.left o.bytes code (omega (arith, less, fr)) in
    record { steps = r.steps; after = r.after; stops = r.stops; window = r.window ∙ c.window }
begun_by false x p enter k law i f args stack window left back sp m t ef o long l c =
    let z = x.shape i in
    let size = z.frame.bytes in
    let fr = o.frame in
    let w : World = record { window = window; left = left } in
    let most : size ≤ stack = over stack (slice_index p.frames i) size t fr in
    let code : HasAt m.text m.pc (entry size) = subst (λ q. HasAt q m.pc (entry size)) (sym c.text) (subst (λ q. HasAt x.text q (entry size)) (sym c.pc) o.code) in
    let room = o.room in
    let begin = o.begin in
    let pc = c.pc in
    let e = entry_enters size stack m c.well c.placed c.left (omega (arith, room)) o.bytes (omega (arith, begin, pc)) code most in
    let call : Call = record { home = back; sp = sp - size } in
    let u = opened x p i f args stack w back sp m o long c most e in
    let s = law i f o.block (fresh args (stack - size)) 0 (entry_id f.blocks) call window left e.after ef o.is l u in
    let point = c.pointer in
    let l1 = c.left.pointer in
    let up : sp - size + size ≡ sp = omega (arith, l1, point, most) in
    let b = beside_entry (sp + 8 * z.words) size m (omega (arith, point)) e in
    let back_to : (rs : List ℕ) (v : World) (n : Machine) → IsBack z.args z.words back (sp - size + size) e.after rs v n → IsBack z.args z.words back sp m rs v n = λ rs v n h.
    back_behind z.args z.words back sp m e.after n rs v b (subst (λ q. IsBack z.args z.words back q e.after rs v n) up h) in
    let g = follows_map riscv64 (List ℕ) x.blocks (z.place (entry_id f.blocks)) w e.after (IsBack z.args z.words back (sp - size + size) e.after) (IsBack z.args z.words back sp m) (enter i (fresh args (stack - size)) (entry_id f.blocks) 0 w) back_to s in
    subst (λ q. Follows riscv64 (List ℕ) x.blocks 0 w m (IsBack z.args z.words back sp m) (enter i (fresh args (stack - q)) (entry_id f.blocks) 0 w)) (sym fr)
    (follows_after riscv64 (List ℕ) x.blocks 0 (z.place (entry_id f.blocks)) e.steps w w m e.after (IsBack z.args z.words back sp m) (enter i (fresh args (stack - size)) (entry_id f.blocks) 0 w) e.goes (record { some = omega arith }) g)

pub calls_follow : CallsFollow
calls_follow x p enter k law i f args stack window left back sp m ef o long l c =
    let w : World = record { window = window; left = left } in
    subst (λ q. Follows riscv64 (List ℕ) x.blocks 0 w m (IsBack (x.shape i).args (x.shape i).words back sp m) (begun_in q enter p i args stack w)) (sym ef)
    (begun_by (nat_lt stack (slice_index p.frames i)) x p enter k law i f args stack window left back sp m refl ef o long l c)
