-- From the end of a block to the entry of the next.
use Rattle.std.proofs.Common.{◌≡◌, ℕ, suc, ◌+◌, ◌-◌, ◌*◌, ◌<◌, ◌≤◌, List, length, ap, ◌∙◌, sym, subst, refl, arith, Some, inl, inr, ◌⊎◌}
use Rattle.std.specs.Prelude.{Bool, slice_index}
use Rattle.bk_func.specs.Meaning.{World, entered}
use Rattle.bk_rv_isa.specs.Machine.{Machine}
use Rattle.bk_rv_emit_laws.specs.Leaving.{Path}
use Rattle.bk_rv_emit_laws.specs.Octets.{AreBytes}
use Rattle.bk_rv_emit_laws.specs.Frames.{word_address}
use Rattle.bk_rv_emit_laws.proofs.Slots.{same_load, same_frame}
use Rattle.bk_run_laws.proofs.Following.{Counts, counts_some, follows_after, follows_map}
use Rattle.bk_rv_run_laws.specs.Relation.{HasWords, IsUnderWay, IsBack, riscv64}
use Rattle.bk_rv_run_laws.specs.Edges.{WaysKeep, EdgesFollow}
use Rattle.bk_rv_run_laws.proofs.Besides.{of_path, back_behind}

words_kept : (m n : Machine) (address : ℕ) (there : ℕ → Bool) (word : ℕ → ℕ) → Path 31 m n → HasWords m address there word → HasWords n address there word
words_kept m n address there word p h = record { each = λ k t. same_load 31 m n 8 (address + 8 * k) p.keeps ∙ h.each k t }

pub ways_keep : WaysKeep
ways_keep x p i f id a d call m n w h =
    let z = x.shape i in
    let k = w.keeps in
    let bytes = h.bytes in
    let l = h.left in
    let l1 = l.pointer in
    let l2 = l.inside in
    let l3 = l.small in
    let kb = k.bottom in
    let ks = ap length k.stack in
    let two = k.others 2 (λ e. omega (arith, e)) (λ e. omega (arith, e)) in
    record {
      text = k.text ∙ h.text;
      pool = k.pool ∙ h.pool;
      bytes = record { window = subst AreBytes (sym k.window) bytes.window; stack = subst AreBytes (sym k.stack) bytes.stack; pool = subst AreBytes (sym k.pool) bytes.pool };
      frame = same_frame z.frame call.sp 31 m n (λ e. omega (arith, e)) h.frame k;
      holds = h.holds;
      held = record {
        registers = λ r q. k.others r q.place.free q.place.free ∙ h.held.registers r q;
        words = λ j b. same_load 31 m n 8 (word_address z.frame call.sp j) k ∙ h.held.words j b;
        fit = h.held.fit;
      };
      values = h.values;
      window = k.window ∙ h.window;
      left = record {
        bound = k.others 27 (λ e. omega (arith, e)) (λ e. omega (arith, e)) ∙ l.bound ∙ sym k.bottom;
        pointer = omega (arith, two, l1, kb);
        inside = omega (arith, ks, l2);
        small = omega (arith, ks, kb, l3);
      };
      return = same_load 31 m n 8 (call.sp + z.frame.bytes - 8) k ∙ h.return;
      home = h.home;
      given = words_kept m n (call.sp + z.frame.bytes) (z.given id) (slice_index a.env.args) w h.given;
      out = words_kept m n call.sp (z.out id) a.out w h.out;
      back = words_kept m n (call.sp + z.frame.bytes) (z.back id) a.back w h.back;
    }

-- some step was made, or the block stands next
counted : (blocks from to s left : ℕ) (window : List ℕ) (Next : Type 0) → from < blocks → (Next → to ≡ from + 1) → (1 ≤ s) ⊎ Next →
    Counts blocks from to s (record { window = window; left = suc left }) (record { window = window; left = left })
counted blocks from to s left window Next low near (inl h) = counts_some blocks from to s (record { window = window; left = suc left }) (record { window = window; left = left }) refl low h
counted blocks from to s left window Next low near (inr h) = record { some = let e = near h in omega (arith, e) }

pub edges_follow : EdgesFollow
edges_follow x p enter k law i f c a edge from id next call window left m ef ec l low near comes h =
    let z = x.shape i in
    let w : World = record { window = window; left = suc left } in
    let v : World = record { window = window; left = left } in
    let n = comes.after in
    let sp : ℕ = call.sp + z.frame.bytes in
    let u : IsUnderWay x p i f id (entered p f c edge a v) window call n = record { pc = comes.pc; inside = ways_keep x p i f id (entered p f c edge a v) window call m n comes.path h } in
    let r = law i f c a edge id call window left n ef ec l u in
    let b = of_path (sp + 8 * z.words) 31 m n (λ e. omega (arith, e)) comes.path in
    let q = follows_map riscv64 (List ℕ) x.blocks (z.place id) v n (IsBack z.args z.words call.home sp n) (IsBack z.args z.words call.home sp m) (enter i a id edge v)
    (λ rs y o e. back_behind z.args z.words call.home sp m n o rs y b e) r in
    follows_after riscv64 (List ℕ) x.blocks (z.place from) (z.place id) comes.path.steps w v m n (IsBack z.args z.words call.home sp m) (enter i a id edge v) comes.path.goes
    (counted x.blocks (z.place from) (z.place id) comes.path.steps left window (next ≡ Some id) low near comes.some) q
