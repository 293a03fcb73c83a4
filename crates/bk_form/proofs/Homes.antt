-- The states of blocks by places, one place after the other.
use Rattle.std.proofs.Common.{◌≡◌, ◌∙◌, sym, refl, ap, subst, ℕ, ◌<◌, ◌≤◌, ◌↔◌, List, length, Option, None, Some, true, false, ⊎_elim, arith}
use Rattle.std.specs.List.{slice_get}
use Rattle.std.specs.Option.{is_some}
use Rattle.std.proofs.lemmas.Bool.{cases_lt, false≢true}
use Rattle.std.proofs.lemmas.List.{get_or_past}
use Rattle.std.proofs.lemmas.Option.{get_or_from_slice_get, none-some, same_Some, slice_get_within}
use Rattle.bk_func.specs.Records.{BlockRecord, FuncRecord}
use Rattle.bk_func.specs.Form.Text.{HasBlock}
use Rattle.bk_func.specs.Form.States.{IsChain}
use Rattle.bk_places.proofs.Elements.{contains_at}
use Rattle.bk_places.proofs.Filling.{Filled}
use Rattle.bk_form.specs.Chains.{AreBefores, AreChains, AreHomes, AreNamed, IsBefore, IsChainOf, IsStateAt}
use Rattle.bk_form.specs.declared.chains.Chain.{Chain}
use Rattle.bk_form.specs.declared.chains.Chain.TheVariants.{Empty}
use Rattle.bk_form.specs.Naming.{GivesState, IsFirstOf, NamesIf}
use Rattle.bk_form.specs.Places.{NodeRecord, node_at, nodes_of}
use Rattle.bk_form.proofs.Copied.{AreValues}
use Rattle.bk_form.proofs.Standing.{node_stands}
use Rattle.bk_form.proofs.StateNames.{state_is}

pub befores_all : (hs ns bs : List (Option ℕ)) (i : ℕ) → i ≡ length hs → Filled (λ (p : ℕ) (o : Option ℕ). (q : ℕ) → (o ≡ Some q) ↔ IsBefore hs ns p q) None bs i → AreBefores hs ns bs
befores_all hs ns bs i all filled = record {
  size = filled.size ∙ all;
  each = λ p q. ⊎_elim
      (λ (b : p < i). filled.each p b q)
      (λ (a : i ≤ p). (
        λ e. absurd (none-some q (sym (get_or_past bs p None (omega (arith, filled.size))) ∙ e)),
        λ (n, (j, h, other)). absurd (none-some j (sym (get_or_past hs p None (omega arith)) ∙ h)),
      ))
      (cases_lt p i);
}

pub names_all : (f : FuncRecord) (ns : List (Option ℕ)) (i : ℕ) → i ≡ length (nodes_of f)
    → Filled (λ (p : ℕ) (o : Option ℕ). (m : NodeRecord) → slice_get (nodes_of f) p ≡ Some m → NamesIf f m.value o) None ns i → AreNamed f ns
names_all f ns i all filled = record {
  size = filled.size ∙ all;
  each = λ p m e. filled.each p (omega (arith, slice_get_within (nodes_of f) p m e)) m e;
}

-- a value that gives a state stands at a place, in a block
pub home_is : (f : FuncRecord) → AreValues f → (initial : Option ℕ) → IsFirstOf f initial → (p : ℕ) (m : NodeRecord) → slice_get (nodes_of f) p ≡ Some m → (o : Option ℕ)
    → ((i : ℕ) → (o ≡ Some i) ↔ (GivesState m.value initial × (m.home ≡ i))) → (i : ℕ) → (o ≡ Some i) ↔ IsStateAt f i p
home_is f values initial first p m at o says i = (to, from)
  where
    to : o ≡ Some i → IsStateAt f i p
    to e =
        let (gives, home) = (says i).0 e in
        let (j, b, is, eb, has) = node_stands 0 f.blocks p m at in
        let same : j ≡ i = omega arith in
        let there : slice_get f.blocks i ≡ Some b = subst (λ (k : ℕ). slice_get f.blocks k ≡ Some b) same eb in
        (b, m.value, there, at ∙ ap (λ k. Some (node_at k m.value)) home, (state_is f values initial first b m.value (contains_at f.blocks i b there, has)).0 gives)

    from : IsStateAt f i p → o ≡ Some i
    from (b, v, eb, ep, is) =
        let same : node_at i v ≡ m = same_Some (node_at i v) m (sym ep ∙ at) in
        (says i).1 (
          subst (λ (w : NodeRecord). GivesState w.value initial) same ((state_is f values initial first b v is.0).1 is),
          ap (λ (w : NodeRecord). w.home) (sym same),
        )

pub homes_all : (f : FuncRecord) (hs : List (Option ℕ)) (i : ℕ) → i ≡ length (nodes_of f) → Filled (λ (p : ℕ) (o : Option ℕ). (j : ℕ) → (o ≡ Some j) ↔ IsStateAt f j p) None hs i → AreHomes f hs
homes_all f hs i all filled = record {
  size = filled.size ∙ all;
  each = λ p j. ⊎_elim
      (λ (b : p < i). filled.each p b j)
      (λ (a : i ≤ p). (
        λ e. absurd (none-some j (sym (get_or_past hs p None (omega (arith, filled.size))) ∙ e)),
        λ (b, v, eb, ep, is). absurd (omega (arith, slice_get_within (nodes_of f) p (node_at j v) ep)),
      ))
      (cases_lt p i);
}

-- what tests of an answer say
pub none_is : (o : Option ℕ) → is_some o ≡ false → o ≡ None
none_is None t = refl
none_is (Some x) t = absurd (false≢true (sym t))

pub not_none : (o : Option ℕ) → is_some o ≡ true → ¬ (o ≡ None)
not_none None t e = false≢true t
not_none (Some x) t e = none-some x (sym e)

pub chains_all : (f : FuncRecord) → ((b : BlockRecord) (l k : List ℕ) → HasBlock f b → IsChain f b l → IsChain f b k → l ≡ k) → (cs : List Chain) (i : ℕ) → i ≡ length f.blocks → Filled (λ (j : ℕ) (c : Chain). (b : BlockRecord) → slice_get f.blocks j ≡ Some b → IsChainOf f b c) Empty cs i → AreChains f cs
chains_all f one cs i all filled = record {
  one = one;
  size = filled.size ∙ all;
  each = λ j b c eb ec. subst (λ (x : Chain). IsChainOf f b x) (get_or_from_slice_get cs j c Empty ec) (filled.each j (omega (arith, slice_get_within f.blocks j b eb)) b eb);
}
