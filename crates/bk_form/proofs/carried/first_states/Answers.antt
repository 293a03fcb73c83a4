use Rattle.std.proofs.Common.{◌≡◌, ◌∙◌, sym, ap, subst, ℕ, List, Option, None, get_or, length}
use Rattle.std.proofs.lemmas.Result.{IfOk-weaker}
use Rattle.bk_places.proofs.Marking.{none_closed, none_unmarked}
use Rattle.bk_places.specs.Search.{IsClosed, PathFrom}
use Rattle.bk_form.specs.Carried.{AreOpen, AreIncoming, AreDiffering, unmarked}
use Rattle.bk_form.specs.Names.{measure}
use Rattle.bk_form.specs.Walks.{block_edges, IsRow}
use Rattle.bk_form.proofs.Copied.{values_named}
use Rattle.bk_form.proofs.FirstStates.{AreFlows, first_states_are}
use Rattle.bk_form.proofs.Used.{are_named}
use Rattle.bk_form.proofs.carried.first_states.Goals as goal

pub incoming-requires : goal.incoming-requires
incoming-requires c = c.in_ok-through.ensures.size

pub extend_all-requires-clause-closed : goal.extend_all-requires-clause-closed
extend_all-requires-clause-closed c =
    subst (λ (ls : List (Option ℕ)). IsClosed c.in_ok-through.through c.len-nowhere.result ls) (sym c.in_ok-torn.ensures.none)
    (none_closed c.in_ok-through.through c.len-nowhere.result c.len-nowhere.result)

pub returns : goal.returns
returns c =
    let f = c.args.flow.now.scope.func.now in
    let es : c.args.flow.now.edges ≡ block_edges f = c.requires.flow.edges in
    let incoming = c.in_ok-incoming.incoming.items in
    let flows : AreFlows f c.args.chains.now c.args.reached.now c.in_ok-through.through incoming c.in_ok-differing.differing.items = record {
      named = are_named (measure c.args.flow.now.scope) f c.requires.flow.named;
      values = values_named (measure c.args.flow.now.scope) f c.requires.flow.named;
      chains = c.requires.chains;
      reached = subst (λ (us : List (List ℕ)). IsRow us (length us) c.args.reached.now) es c.requires.reached;
      through = subst (λ (us : List (List ℕ)). AreOpen us c.args.chains.now c.in_ok-through.through) es c.in_ok-through.ensures;
      incoming = subst (λ (us : List (List ℕ)). AreIncoming us c.in_ok-through.through c.args.chains.now c.args.reached.now incoming) es c.in_ok-incoming.ensures;
      differing = subst (λ (us : List (List ℕ)). AreDiffering us c.args.chains.now c.args.reached.now incoming c.in_ok-differing.differing.items) es
          (subst (λ (ls : List (Option ℕ)). AreDiffering c.args.flow.now.edges c.args.chains.now c.args.reached.now ls c.in_ok-differing.differing.items) c.deref.ensures.value
          c.in_ok-differing.ensures);
    } in
    let ds = c.in_ok-differing.differing.items in
    let starts : c.deref-2.result.now ≡ ds = c.deref-2.ensures.value in
    let through = c.in_ok-through.through in
    let marks = c.extend_all.new.self.labels.items in
    IfOk-weaker c.states_of.result _ _
    (λ ss h. first_states_are f c.args.chains.now c.args.reached.now through incoming ds flows marks ss.items
    (λ p (l, e).
    let (label, path) = c.in_ok-extend_all.ensures.grows.fresh p l (none_unmarked c.len-nowhere.result c.in_ok-torn.torn.labels.items c.in_ok-torn.ensures.none p) e in
    subst (λ (n : ℕ). PathFrom through n ds p) c.len-nowhere.ensures (subst (λ (us : List ℕ). PathFrom through c.len-nowhere.result us p) starts path))
    (λ p path. c.in_ok-extend_all.ensures.found p (subst (λ (us : List ℕ). PathFrom through c.len-nowhere.result us p) (sym starts)
    (subst (λ (n : ℕ). PathFrom through n ds p) (sym c.len-nowhere.ensures) path)))
    (λ p. h p ∙ (ap (λ us. unmarked (get_or us p None) (get_or c.deref-3.result.now p None)) c.deref-4.ensures.value ∙ ap (λ us. unmarked (get_or marks p None) (get_or us p None)) c.deref-3.ensures.value)))
    c.states_of.ensures
