use Rattle.std.proofs.Common.{◌∙◌, sym, ap, subst, ℕ, get_or, Option, None}
use Rattle.std.specs.List.{slice_get}
use Rattle.bk_func.specs.Form.States.{IsFirstState, IsLastState}
use Rattle.bk_form.specs.Carried.{IsPlaceOf, out_of}
use Rattle.bk_form.specs.Memories.{func_of}
use Rattle.bk_form.proofs.FirstStates.{last_state_is}
use Rattle.bk_form.proofs.memory.Memories.last_state.Goals as goal

pub returns : goal.returns
returns c = λ b eb.
    let state : IsPlaceOf (func_of c.args.self.now) (IsFirstState (func_of c.args.self.now) b) c.entry-state.result =
    subst (λ (o : Option ℕ). IsPlaceOf (func_of c.args.self.now) (IsFirstState (func_of c.args.self.now) b) o) (sym (c.entry-state.ensures ∙ ap (λ us. get_or us c.args.at None) c.deref.ensures.value))
    (c.requires.memories.firsts.each c.args.at b eb (c.requires.reached b eb)) in
    subst (λ (o : Option ℕ). IsPlaceOf (func_of c.args.self.now) (IsLastState (func_of c.args.self.now) b) o) (sym (c.outgoing.ensures ∙ ap (λ cs. out_of (slice_get cs c.args.at) c.entry-state.result) c.deref-2.ensures.value))
    (last_state_is (func_of c.args.self.now) c.args.self.now.chains.items c.requires.memories.chains c.args.at b eb (c.requires.reached b eb) c.entry-state.result state)
