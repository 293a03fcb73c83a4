-- Parts of runs in sequence, and the count of blocks.
use Rattle.std.proofs.Common.{◌≡◌, ℕ, zero, suc, ◌+◌, ◌*◌, ◌/◌, ◌<◌, ◌≤◌, ◌∙◌, arith, List}
use Rattle.std.proofs.lemmas.Nat.{div_below}
use Rattle.bk_machine.specs.Runs.{Goes}
use Rattle.bk_machine.proofs.Running.{then}
use Rattle.bk_func.specs.Meaning.{Outcome, returned, trapped, wild, going, World, Run, gives, stops, bind}
use Rattle.bk_run_laws.specs.Bounds.{BoundsAreSpent}
use Rattle.bk_run_laws.specs.Follows.{System, Holding, Ends, StopsBy, Follows}

-- between two blocks: no step was made and the second stands behind the first, or some step was made
pub record Counts (b place next s : ℕ) (w v : World) : Type 0 where
  pub some : w.left + place ≤ v.left + next + b * s

spread : (b s t : ℕ) → b * (s + t) ≡ b * s + b * t
spread b s t = omega arith

pub counts_none : (b place : ℕ) (w v : World) → w.left ≡ suc v.left → Counts b place (place + 1) 0 w v
counts_none b place w v e = record { some = omega (arith, e) }

at_least : (b s : ℕ) → 1 ≤ s → b ≤ b * s
at_least b zero h = absurd (omega arith)
at_least b (suc s) h = omega arith

pub counts_some : (b place next s : ℕ) (w v : World) → w.left ≡ suc v.left → place < b → 1 ≤ s → Counts b place next s w v
counts_some b place next s w v e l h = record { some = omega (arith, e, at_least b s h) }

-- a call that came back, with the steps that are counted for its blocks, and the rest of the block
pub counts_more : (b place next s t : ℕ) (u v w : World) → u.left ≤ v.left + b * s → Counts b place next t v w → Counts b place next (s + t) u w
counts_more b place next s t u v w h c = record { some = let k = c.some in let e = spread b s t in omega (arith, h, k, e) }

-- the steps after which the machine goes on are at least the blocks that may be entered over all blocks
pub enough : BoundsAreSpent
enough n zero t h = absurd (let e : zero * t ≡ 0 = omega arith in omega (arith, h, e))
enough n (suc b) t h =
    let e : suc b * t + suc b ≡ (t + 1) * suc b = omega arith in
    let l : n / suc b < t + 1 = div_below n (suc b) (t + 1) (omega arith) (omega (arith, h, e)) in
    omega (arith, l)

module _ (y : System) where
  ends_after : (A : Type 0) (b place next s : ℕ) (w v u : World) (m n : y.Machine) (x : A) (H : Holding y A) → Goes y.step s m n → Counts b place next s w v → Ends y A b next v u n x H → Ends y A b place w u m x H
  ends_after A b place next s w v u m n x H g c e = record {
    steps = s + e.steps;
    after = e.after;
    goes = then y.step s e.steps m n e.after g e.goes;
    holds = e.holds;
    count = let k = c.some in let l = e.count in let q = spread b s e.steps in omega (arith, k, l, q);
  }

  stops_after : (o : Outcome) (b place next s : ℕ) (w v : World) (m n : y.Machine) (d : List ℕ) → Goes y.step s m n → Counts b place next s w v → StopsBy y o b next v n d → StopsBy y o b place w m d
  stops_after (returned r) b place next s w v m n d g c h = h
  stops_after (trapped k) b place next s w v m n d g c h = record { steps = s + h.steps; after = h.after; stops = g.by h.steps ∙ h.stops; window = h.window }
  stops_after (wild a) b place next s w v m n d g c h = tt
  stops_after going b place next s w v m n d g c h = record {
    steps = s + h.steps;
    after = h.after;
    goes = g.by h.steps ∙ h.goes;
    count = let k = c.some in let l = h.count in let q = spread b s h.steps in omega (arith, k, l, q);
  }

  -- what the machine follows after steps it follows from before them
  pub follows_after : (A : Type 0) (b place next s : ℕ) (w v : World) (m n : y.Machine) (H : Holding y A) (r : Run A) → Goes y.step s m n → Counts b place next s w v → Follows y A b next v n H r → Follows y A b place w m H r
  follows_after A b place next s w v m n H (gives x u) g c f = ends_after A b place next s w v u m n x H g c f
  follows_after A b place next s w v m n H (stops o d) g c f = stops_after o b place next s w v m n d g c f

  -- a part, then the part that it leads to
  pub follows_bind : (A B : Type 0) (b place : ℕ) (w : World) (m : y.Machine) (H : Holding y A) (K : Holding y B) (r : Run A) (go : A → World → Run B) →
      Follows y A b place w m H r → ((x : A) (v : World) (n : y.Machine) → H x v n → Follows y B b 0 v n K (go x v)) → Follows y B b place w m K (bind r go)
  follows_bind A B b place w m H K (gives x v) go f h =
      follows_after B b place 0 f.steps w v m f.after K (go x v) f.goes (record { some = let k = f.count in omega (arith, k) }) (h x v f.after f.holds)
  follows_bind A B b place w m H K (stops (returned q) d) go f h = f
  follows_bind A B b place w m H K (stops (trapped q) d) go f h = f
  follows_bind A B b place w m H K (stops (wild q) d) go f h = f
  follows_bind A B b place w m H K (stops going d) go f h = f

  -- what holds at the end may be said in other words
  pub follows_map : (A : Type 0) (b place : ℕ) (w : World) (m : y.Machine) (H K : Holding y A) (r : Run A) → ((x : A) (v : World) (n : y.Machine) → H x v n → K x v n) → Follows y A b place w m H r → Follows y A b place w m K r
  follows_map A b place w m H K (gives x v) h f = record { steps = f.steps; after = f.after; goes = f.goes; holds = h x v f.after f.holds; count = f.count }
  follows_map A b place w m H K (stops o d) h f = f
