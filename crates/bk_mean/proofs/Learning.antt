-- What a run has learnt of a function that was made ready.
use Rattle.std.proofs.Common.{◌≡◌, ℕ, sym, subst, List, Option, Some}
use Rattle.std.specs.Prelude.{slice_get}
use Rattle.std.proofs.lemmas.Option.{slice_get_within}
use Rattle.bk_func.specs.Records.{FuncRecord}
use Rattle.bk_func.specs.Numbers.{Program}
use Rattle.bk_func.specs.Form.{IsFormed}
use Rattle.bk_func.specs.Form.Signatures.{Setting, whole}
use Rattle.bk_func.proofs.Faults.{In}
use Rattle.bk_mean.specs.declared.ready.Ready.{Ready}
use Rattle.bk_mean.specs.declared.ready.Kept.{Kept}
use Rattle.bk_mean.specs.Ready.{IsReady, kept_by}
use Rattle.bk_mean.proofs.Kept.{result_kept, kept_result, kept_there, order_there}
use Rattle.bk_mean.proofs.Stacking.{Learnt}

pub learnt_ready : (p : Program) → p.places ≡ whole → (readies : List (Option Ready)) (i : ℕ) (f : FuncRecord) (r : Ready) → slice_get p.pkg.funcs i ≡ Some f → slice_get readies i ≡ Some (Some r) → (s : Setting) → IsFormed s f → IsReady p.pkg f r →
    Learnt p readies i f r
learnt_ready p places readies i f r at ready s form q = record {
  places = places;
  func = at;
  ready = ready;
  set = s;
  formed = form;
  values = q.values;
  kept = λ b v j call.
      let k = kept_there s f form b v j r.kept.items q.kept q.results in (
        k.0,
        k.1,
        record {
          all = λ u x. (let P : List Kept → Type 0 = λ ks. In (kept_by f u) ks in subst P (sym k.2) (result_kept s f form b v j u x));
          only = λ y x. (let P : List Kept → Type 0 = λ ks. In y ks in kept_result s f form b v j y (subst P k.2 x));
        },
      );
  blocks = q.blocks;
  order = λ j b c g k m a. order_there s f form b m a c.order.items (q.blocks.each j b c (slice_get_within f.blocks j b g) g k).order;
}
