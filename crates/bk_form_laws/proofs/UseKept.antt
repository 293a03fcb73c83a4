-- Use after a visit.
use Rattle.std.proofs.Common.{◌≡◌, ℕ, refl, ap, sym, ◌∙◌, ◌⊎◌, inl, inr, Some}
use Rattle.std.specs.Prelude.{slice_get}
use Rattle.bk_func.specs.Records.{ValueRecord, BlockRecord}
use Rattle.bk_func.specs.declared.form.FormKind.TheVariants.{Use}
use Rattle.bk_func.specs.Form.{Keeps}
use Rattle.bk_func.specs.Form.Text.{IsPhi}
use Rattle.bk_func.specs.Form.Walks.{IsDefinedAt, DefinesControl, DefinesArguments}
use Rattle.bk_func.proofs.Faults.{In}
use Rattle.bk_form_laws.specs.Visits.{IsNew}
use Rattle.bk_places.proofs.Elements.{to_in}
use Rattle.bk_mean.proofs.Dominance.{defined_here}
use Rattle.bk_form_laws.proofs.Pairs.{shape, in_old, defined_over}
use Rattle.bk_form_laws.proofs.Turning.{new_in}
use Rattle.bk_form_laws.proofs.EasyKinds.{each_block}
use Rattle.bk_form_laws.proofs.Steps.{Step, after, block_after, Pairs, pair_here, turned_at, each}

pub defined_at : (t : Step) (c d : BlockRecord) → Pairs t c d → (n : ℕ) → IsDefinedAt t.f c n → IsDefinedAt (after t) d n
defined_at t c d p n h = defined_over t.f (after t) t.x (block_after t) (turned_at t) c d p n h

pub arguments_over : (t : Step) (c d : BlockRecord) → Pairs t c d → (u : ValueRecord) → DefinesArguments t.f c u → DefinesArguments (after t) d u
arguments_over t c d p u h =
    let q = shape t.f (after t) t.x (block_after t) c d (turned_at t).shape p in record {
      here = λ a n i. defined_at t c d p n (h.here a n i);
      before = λ a k n b e r j. each_block t.f t.b t.k t.x t.v t.root t.made t.visit (λ b. slice_get d.preds k ≡ Some b.id → IsDefinedAt (after t) b n)
          (λ z b o r. (let w : slice_get c.preds k ≡ Some z.id = ap (λ ps. slice_get ps k) q.preds ∙ (r ∙ ap Some (sym (shape t.f (after t) t.x (block_after t) z b (turned_at t).shape o).id)) in
          defined_at t z b o n (h.before a k n z e w (in_old t.f (after t) t.x (block_after t) z b o)))) b j r;
    }

-- the value takes what is defined where the visit was, and what was made there
pub record NewUses (t : Step) (w : ValueRecord) : Type 0 where
  pub no_phi : ¬ IsPhi w
  pub args : (n : ℕ) → In n w.args → IsDefinedAt t.f t.x n ⊎ ((u : ValueRecord) × In u t.made × (u.id ≡ n))

pub new_uses : (t : Step) (w : ValueRecord) → NewUses t w → DefinesArguments (after t) (block_after t) w
new_uses t w h = record {
  here = λ a n i. go n (h.args n (to_in n w.args i));
  before = λ a. absurd (h.no_phi a);
}
  where
    go : (n : ℕ) → IsDefinedAt t.f t.x n ⊎ ((u : ValueRecord) × In u t.made × (u.id ≡ n)) → IsDefinedAt (after t) (block_after t) n
    go n (inl d) = defined_at t t.x (block_after t) (pair_here t) n d
    go n (inr (u, i, e)) = defined_here (after t) (block_after t) n (u, (new_in t.f t.b t.k t.x t.v t.root t.made t.visit u (inr i)).1, e)

-- A visit keeps Use, where the arguments of the new values are defined. It needs Missing alone.
pub use_kept : (t : Step) → ((w : ValueRecord) → IsNew t.root t.made w → DefinesArguments (after t) (block_after t) w) → Keeps t.s t.f Use → Keeps t.s (after t) Use
use_kept t new k d i = record {
  block = each_block t.f t.b t.k t.x t.v t.root t.made t.visit (DefinesControl (after t)) (λ c d p n e. (let q = shape t.f (after t) t.x (block_after t) c d (turned_at t).shape p in
      defined_at t c d p n ((k c (in_old t.f (after t) t.x (block_after t) c d p)).block n (q.control ∙ e)))) d i;
  value = λ w j. each t (λ d w. DefinesArguments (after t) d w) (new t.root (inl refl)) (λ w j. new w (inr j)) (λ c d u p q a. arguments_over t c d p u ((k c q.0).value u q.1)) d w (i, j);
}
