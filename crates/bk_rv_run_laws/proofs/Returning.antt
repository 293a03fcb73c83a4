-- A call in a frame comes back.
use Rattle.std.proofs.Common.{◌≡◌, ℕ, ◌+◌, ◌*◌, ◌^◌, ◌<◌, ◌≤◌, List, length, ap, ◌∙◌, sym, subst, arith}
use Rattle.bk_func.specs.Meaning.{World, begun}
use Rattle.bk_rv_isa.specs.Machine.{Machine, reg}
use Rattle.bk_emit.specs.declared.blocks.Frame.{Frame}
use Rattle.bk_emit.specs.declared.blocks.Spot.{Spot}
use Rattle.bk_rv_emit_laws.specs.Octets.{AreBytes}
use Rattle.bk_rv_emit_laws.specs.Frames.{word_address}
use Rattle.bk_rv_emit_laws.specs.Calls.{Calls}
use Rattle.bk_rv_emit_laws.proofs.Turns.{call_calls}
use Rattle.bk_rv_emit_laws.proofs.Slots.{same_load}
use Rattle.bk_run_laws.proofs.Following.{follows_after, follows_map}
use Rattle.bk_rv_run_laws.specs.Relation.{Image, IsBack, riscv64}
use Rattle.bk_rv_run_laws.specs.Calling.{IsCalled}
use Rattle.bk_rv_run_laws.specs.Within.{IsAfter, HasFrame, AreSent, AreCode, CallsReturn}
use Rattle.bk_rv_run_laws.proofs.Besides.{of_path, beside_then}
use Rattle.bk_rv_run_laws.proofs.Opening.{calls_follow}

-- the machine at the callee
sent : (x : Image) (i : ℕ) (args : List ℕ) (f : Frame) (sp stack : ℕ) (d : List ℕ) (m : Machine) (s : Spot → ℕ) → HasFrame x f sp stack d m s → AreSent args sp m → AreCode m.pc (x.shape i).begin →
    (c : Calls m (x.shape i).begin) → IsCalled x i args stack d (m.pc + 8) sp c.after
sent x i args f sp stack d m s h a n c =
    let k = c.path.keeps in
    let l = h.left in
    let l1 = l.pointer in
    let l2 = l.inside in
    let l3 = l.small in
    let placed = h.frame.placed in
    let p1 = placed.pool in
    let p2 = placed.window in
    let kp = ap length k.pool in
    let kw = ap length k.window in
    let ks = ap length k.stack in
    let kb = k.bottom in
    let bytes = h.bytes in
    let two : reg c.after.regs 2 ≡ reg m.regs 2 = k.others 2 (λ e. omega (arith, e)) (λ e. omega (arith, e)) in
    let here = n.here in
    let even = n.even in
    record {
      pc = c.pc;
      text = k.text ∙ h.text;
      pool = k.pool ∙ h.pool;
      well = k.well;
      placed = record { pool = omega (arith, kp, p1); window = omega (arith, kw, kb, p2) };
      bytes = record { window = subst AreBytes (sym k.window) bytes.window; stack = subst AreBytes (sym k.stack) bytes.stack; pool = subst AreBytes (sym k.pool) bytes.pool };
      left = record {
        bound = k.others 27 (λ e. omega (arith, e)) (λ e. omega (arith, e)) ∙ l.bound ∙ sym k.bottom;
        pointer = omega (arith, two, l1, kb);
        inside = omega (arith, ks, l2);
        small = omega (arith, ks, kb, l3);
      };
      pointer = two ∙ h.frame.pointer;
      return = c.back;
      home = record { even = omega (arith, even); near = omega (arith, here) };
      window = k.window ∙ h.window;
      low = λ j b e. k.others (10 + j) (λ q. omega (arith, q)) (λ q. omega (arith, q, b)) ∙ a.low j b e;
      high = λ j b e. same_load 1 m c.after 8 (sp + 8 * j) k ∙ a.high j b e;
    }

-- the machine behind the call
after : (x : Image) (begin words : ℕ) (f : Frame) (sp stack : ℕ) (d : List ℕ) (m : Machine) (s : Spot → ℕ) (to : Calls m begin) → (rs : List ℕ) (v : World) (n : Machine) →
    HasFrame x f sp stack d m s → words ≤ f.out → (count : ℕ) → IsBack count words (m.pc + 8) sp to.after rs v n → IsAfter f sp count words (m.pc + 8) m s rs v n
after x begin words f sp stack d m s to rs v n h room count b =
    let g = h.frame in
    let high = g.high in
    let low = g.low in
    let t = b.beside in
    let q = beside_then (sp + 8 * words) m to.after n (of_path (sp + 8 * words) 1 m to.after (λ e. omega (arith, e)) to.path) t in
    let qb = q.bottom in
    let ql = q.long in
    record {
      pc = b.pc;
      frame = record {
        placed = b.placed;
        well = b.well;
        pointer = b.pointer;
        low = omega (arith, qb, low);
        high = omega (arith, qb, ql, high);
        room = g.room;
        small = g.small;
        text = subst (λ y. length y < 2 ^ 26) (sym q.text) g.text;
      };
      bytes = b.bytes;
      slots = λ j l. q.above 8 (word_address f sp j) (omega (arith, room)) ∙ h.held.words j l;
      window = b.window;
      results = b.results;
      beside = q;
    }

pub calls_return : CallsReturn
calls_return x p enter k law i g args f sp stack window left m s eg o long room most h a n code =
    let z = x.shape i in
    let w : World = record { window = window; left = left } in
    let c = call_calls z.begin m h.frame.well n.here n.there n.even_there code in
    let u = sent x i args f sp stack window m s h a n c in
    let r = calls_follow x p enter k law i g args stack window left (m.pc + 8) sp c.after eg o long most u in
    let run = begun enter p i args stack w in
    let q = follows_map riscv64 (List ℕ) x.blocks 0 w c.after (IsBack z.args z.words (m.pc + 8) sp c.after) (IsAfter f sp z.args z.words (m.pc + 8) m s) run
    (λ rs v e b. after x z.begin z.words f sp stack window m s c rs v e h room z.args b) r in
    follows_after riscv64 (List ℕ) x.blocks 0 0 c.path.steps w w m c.after (IsAfter f sp z.args z.words (m.pc + 8) m s) run c.path.goes (record { some = omega arith }) q
