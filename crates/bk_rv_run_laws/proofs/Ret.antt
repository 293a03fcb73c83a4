-- A block that ends with Ret.
use Rattle.std.proofs.Common.{◌≢◌, ℕ, suc, ◌+◌, ◌-◌, ◌*◌, ◌<◌, ◌≤◌, length, ap, ◌∙◌, sym, subst, refl, arith}
use Rattle.bk_rv_isa.specs.Machine.{load}
use Rattle.bk_rv_emit_laws.specs.Octets.{AreBytes}
use Rattle.bk_rv_emit_laws.proofs.Leave.{leave_returns}
use Rattle.bk_rv_run_laws.specs.Relation.{RetEnds}
use Rattle.bk_run_laws.proofs.Following.{counts_some}

result_home : (k j : ℕ) → k < 8 → j ≤ 2 → 10 + k ≢ j
result_home k j h l e = omega (arith, h, l, e)

result_low : (k : ℕ) → k < 8 → 10 + k ≢ 31
result_low k h e = omega (arith, h, e)

pub ret_ends : RetEnds
ret_ends f args words home sp blocks place left window m results g bytes most l home_is h win res low =
    let room = g.room in
    let small = g.small in
    let point = g.pointer in
    let placed = g.placed in
    let p1 = placed.pool in
    let p2 = placed.window in
    let some_bytes : 8 ≤ f.bytes = omega (arith, room) in
    let r = leave_returns f.bytes home m g.well some_bytes most (omega (arith, small, point)) home_is.near home_is.even (ap (λ x. load m 8 (x + f.bytes - 8)) point ∙ l) h in
    let c = counts_some blocks place 0 r.steps (record { window = window; left = suc left }) (record { window = window; left = left }) refl low r.some in
    let some = c.some in
    let kp = ap length r.pool in
    let kw = ap length r.window in
    let kb = r.bottom in
    record {
      steps = r.steps;
      after = r.after;
      goes = r.goes;
      holds = record {
        pc = r.pc;
        well = r.well;
        placed = record { pool = omega (arith, kp, p1); window = omega (arith, kw, kb, p2) };
        bytes = record { window = subst AreBytes (sym r.window) bytes.window; stack = subst AreBytes (sym r.stack) bytes.stack; pool = subst AreBytes (sym r.pool) bytes.pool };
        pointer = r.pointer ∙ ap (λ x. x + f.bytes) point;
        window = r.window ∙ win;
        results = record {
          low = λ k a b. r.others (10 + k) (result_home k 1 a (omega arith)) (result_home k 2 a (omega arith)) (result_low k a) ∙ res.low k a b;
          high = λ k a b. r.same 8 (sp + f.bytes + 8 * (args + k)) ∙ res.high k a b;
        };
        beside = record {
          bound = r.others 27 (λ e. omega (arith, e)) (λ e. omega (arith, e)) (λ e. omega (arith, e));
          above = λ width a q. r.same width a;
          text = r.text;
          pool = r.pool;
          bottom = r.bottom;
          long = ap length r.stack;
        };
      };
      count = omega (arith, some);
    }
