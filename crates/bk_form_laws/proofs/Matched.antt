-- What the variables of a left tree name, where it stands.
use Rattle.std.proofs.Common.{◌≡◌, ℕ, refl, ap, sym, subst, ◌∙◌, ◌⊎◌, inl, inr, List, [], ◌∷◌, Some, None, Option, Bool, true, false, drop}
use Rattle.std.specs.Prelude.{slice_get, if◌then◌else◌}
use Rattle.std.proofs.lemmas.List.Elements.{All-contains}
use Rattle.bk_ops.specs.declared.table.Op.{Op}
use Rattle.bk_func.specs.declared.parts.Aux.{Aux}
use Rattle.bk_func.specs.declared.parts.Aux.TheVariants as aux
use Rattle.bk_func.specs.Records.{ValueRecord, BlockRecord, FuncRecord}
use Rattle.bk_func.specs.Numbers.{value_of}
use Rattle.bk_func.specs.declared.form.FormKind.TheVariants.{Missing, Use}
use Rattle.bk_func.specs.Form.{Keeps}
use Rattle.bk_func.specs.Form.Text.{HasValue, IsPhi}
use Rattle.bk_func.specs.Form.Walks.{IsDefinedAt}
use Rattle.bk_func.specs.Form.Signatures.{Setting}
use Rattle.bk_func.specs.Form.Parts.{IsValueNumber, FitsSymbol, symbol_of, Symbol, variable}
use Rattle.bk_func.proofs.Faults.{In}
use Rattle.bk_rule.specs.declared.trees.Bound.{Bound}
use Rattle.bk_rule.specs.declared.trees.Pattern.{Pattern, Row_of-Pattern, end_of-Pattern, more_of-Pattern}
use Rattle.bk_rule.specs.declared.trees.Pattern as pattern
use Rattle.bk_rule.specs.Bindings.{value_in}
use Rattle.bk_rule.specs.Match.{NameMatches, Matches, MatchesEach, AuxMatches, ordered, swapped, is_commutative, first_is, order_of, orders}
use Rattle.bk_rewrite.specs.Making.{aux_in, aux_made}
use Rattle.bk_form_laws.specs.Fits.{is_special}
use Rattle.bk_refine_laws.specs.Trees.{Names, NamesAmong, NamesBelow}
use Rattle.bk_form_laws.specs.Rules.{IsPlainOp, NamesSymbol, NamesSymbolAmong, IsPlain, ArePlain}
use Rattle.bk_places.proofs.Elements.{to_contains}
use Rattle.bk_mean.proofs.Named.{is_named, value_found}
use Rattle.bk_mean.proofs.Dominance.{arguments_defined}

-- the number m is an argument of the value n, or of one below it; no phi is on the way
pub data Under (f : FuncRecord) : ℕ → ℕ → Type 0 where
  argument : (c : BlockRecord) (u : ValueRecord) (m : ℕ) → HasValue f c u → ¬ IsPhi u → In m u.args → Under f u.id m
  below : (c : BlockRecord) (u : ValueRecord) (n m : ℕ) → HasValue f c u → ¬ IsPhi u → In n u.args → Under f n m → Under f u.id m

in_swapped : (xs : List ℕ) (y : ℕ) → In y (swapped xs) → In y xs
in_swapped (a ∷ b ∷ []) y (inl e) = inr (inl e)
in_swapped (a ∷ b ∷ []) y (inr (inl e)) = inl e
in_swapped (a ∷ b ∷ []) y (inr (inr i)) = elim i [ ]
in_swapped [] y i = i
in_swapped (a ∷ []) y i = i
in_swapped (a ∷ b ∷ c ∷ xs) y i = i

pub in_ordered : (o : Op) (cs : List Bool) (xs : List ℕ) (y : ℕ) → In y (ordered o cs xs) → In y xs
in_ordered o cs xs y i = go (is_commutative o) (first_is cs) i
  where
    go : (c d : Bool) → In y (if c then (if d then swapped xs else xs) else xs) → In y xs
    go true true i = in_swapped xs y i
    go true false i = i
    go false d i = i

one_under : (f : FuncRecord) (id y m : ℕ) (v : ValueRecord) → value_of f id ≡ Some v → ¬ IsPhi v → In y v.args → (m ≡ y) ⊎ Under f y m → Under f id m
one_under f id y m v e p i h = (let r = value_found f id v e in subst (λ n. Under f n m) r.2 (go r.0 r.1 h))
  where
    go : (b : BlockRecord) → HasValue f b v → (m ≡ y) ⊎ Under f y m → Under f v.id m
    go b j (inl q) = argument b v m j p (subst (λ n. In n v.args) (sym q) i)
    go b j (inr u) = below b v y m j p i u

pub not_phi : (v : ValueRecord) (o : Op) → v.op ≡ o → IsPlainOp o → ¬ IsPhi v
not_phi v o e h p = (let a = h.family in let b = ap (λ (q : Op). is_special q.family) (sym e) in let c = ap is_special p in cc)

mutual
  named_at : (p : Pattern) (f : FuncRecord) (bs : List Bound) (i id : ℕ) (cs : List Bool) → IsPlain p → Matches f bs p id cs → Names i p →
      (value_in (slice_get bs i) ≡ id) ⊎ Under f id (value_in (slice_get bs i))
  named_at pattern.Any f bs i id cs h m n = elim n [ ]
  named_at (pattern.Var j) f bs i id cs h m n = inl (ap (λ k. value_in (slice_get bs k)) (sym n) ∙ ap value_in m)
  named_at (pattern.Node' name o ty int x shape ps) f bs i id cs (h, hs) (a, (v, e, d, y, z, q, ms)) (inl n) = inl (named name n a)
    where
      named : (w : Option ℕ) → w ≡ Some i → NameMatches bs w id → value_in (slice_get bs i) ≡ id
      named None n a = absurd cc
      named (Some j) n a = (let k : j ≡ i = cc in ap (λ l. value_in (slice_get bs l)) (sym k) ∙ ap value_in a)
  named_at (pattern.Node' name o ty int x shape ps) f bs i id cs (h, hs) (a, (v, e, d, y, z, q, ms)) (inr n) =
      let (y, j, u) = named_among ps f bs i (ordered o cs v.args) (drop (order_of o) cs) hs ms n in
      inr (one_under f id y (value_in (slice_get bs i)) v e (not_phi v o d h) (in_ordered o cs v.args y j) u)

  named_among : {c : _} (ps : Row_of-Pattern c) (f : FuncRecord) (bs : List Bound) (i : ℕ) (ids : List ℕ) (cs : List Bool) → ArePlain ps → MatchesEach f bs ps ids cs → NamesAmong i ps →
      (y : ℕ) × In y ids × ((value_in (slice_get bs i) ≡ y) ⊎ Under f y (value_in (slice_get bs i)))
  named_among end_of-Pattern f bs i ids cs h m n = elim n [ ]
  named_among (more_of-Pattern p ps) f bs i [] cs h m n = elim m [ ]
  named_among (more_of-Pattern p ps) f bs i (y ∷ ids) cs (h, hs) (m, ms) (inl n) = (y, inl refl, named_at p f bs i y cs h m n)
  named_among (more_of-Pattern p ps) f bs i (y ∷ ids) cs (h, hs) (m, ms) (inr n) = (let (z, j, u) = named_among ps f bs i ids (drop (orders p) cs) hs ms n in (z, inr j, u))

under_at : {c : _} (ps : Row_of-Pattern c) (f : FuncRecord) (bs : List Bound) (i id : ℕ) (cs : List Bool) (v : ValueRecord) (o : Op) → ArePlain ps → value_of f id ≡ Some v → v.op ≡ o → IsPlainOp o →
    MatchesEach f bs ps (ordered o cs v.args) (drop (order_of o) cs) → NamesAmong i ps → Under f id (value_in (slice_get bs i))
under_at ps f bs i id cs v o hs e d h ms n =
    let (y, j, u) = named_among ps f bs i (ordered o cs v.args) (drop (order_of o) cs) hs ms n in
    one_under f id y (value_in (slice_get bs i)) v e (not_phi v o d h) (in_ordered o cs v.args y j) u

-- a variable below the root names a value under it
pub named_below : (p : Pattern) (f : FuncRecord) (bs : List Bound) (i id : ℕ) (cs : List Bool) → IsPlain p → Matches f bs p id cs → NamesBelow i p → Under f id (value_in (slice_get bs i))
named_below pattern.Any f bs i id cs h m n = elim n [ ]
named_below (pattern.Var j) f bs i id cs h m n = elim n [ ]
named_below (pattern.Node' name o ty int x shape ps) f bs i id cs (h, hs) (a, (v, e, d, y, z, q, ms)) n = under_at ps f bs i id cs v o hs e d h ms n

-- such a number names one value, and is defined where the root is
pub under_number : (s : Setting) (f : FuncRecord) → Keeps s f Missing → (n m : ℕ) → Under f n m → IsValueNumber f m
under_number s f k _ _ (argument c u m h p i) = All-contains (IsValueNumber f) u.args m ((k c h.0).value u h.1).args (to_contains m u.args i)
under_number s f k _ _ (below c u n m h p i r) = under_number s f k n m r

pub under_defined : (s : Setting) (f : FuncRecord) → Keeps s f Missing → Keeps s f Use → (x : BlockRecord) (n m : ℕ) → Under f n m → IsDefinedAt f x n → IsDefinedAt f x m
under_defined s f k l x _ _ (argument c u m h p i) d = arguments_defined s f (is_named s f k) l c x u h p d m i
under_defined s f k l x _ _ (below c u n m h p i r) d = under_defined s f k l x n m r (arguments_defined s f (is_named s f k) l c x u h p d n i)

-- ---- symbols
symbol_here : (s : Setting) (f : FuncRecord) (bs : List Bound) (i : ℕ) (a : Aux) → AuxMatches bs (Some i) a → FitsSymbol s f variable a → FitsSymbol s f variable (aux_made bs (Some i))
symbol_here s f bs i aux.Nothing m h = elim m [ ]
symbol_here s f bs i (aux.Sym n) m h = (let P : Aux → Type 0 = λ z. FitsSymbol s f variable z in subst P (sym (ap aux_in m)) h)
symbol_here s f bs i (aux.Ty t) m h = elim h [ ]
symbol_here s f bs i (aux.Arg t) m h = elim h [ ]

mutual
  symbol_at : (p : Pattern) (s : Setting) (f : FuncRecord) → Keeps s f Missing → (bs : List Bound) (i id : ℕ) (cs : List Bool) → Matches f bs p id cs → NamesSymbol i p → FitsSymbol s f variable (aux_made bs (Some i))
  symbol_at pattern.Any s f k bs i id cs m n = elim n [ ]
  symbol_at (pattern.Var j) s f k bs i id cs m n = elim n [ ]
  symbol_at (pattern.Node' name o ty int x shape ps) s f k bs i id cs (a, (v, e, d, y, z, q, ms)) (inl (n, l)) =
      let r = value_found f id v e in
      let h : FitsSymbol s f (symbol_of v.op.family) v.aux = ((k r.0 r.1.0).value v r.1.1).symbol in
      let h2 : FitsSymbol s f variable v.aux = (let P : Symbol → Type 0 = λ w. FitsSymbol s f w v.aux in subst P (ap (λ (u : Op). symbol_of u.family) d ∙ l) h) in
      let q2 : AuxMatches bs (Some i) v.aux = (let P : Option ℕ → Type 0 = λ w. AuxMatches bs w v.aux in subst P n q) in
      symbol_here s f bs i v.aux q2 h2
  symbol_at (pattern.Node' name o ty int x shape ps) s f k bs i id cs (a, (v, e, d, y, z, q, ms)) (inr n) = symbol_among ps s f k bs i (ordered o cs v.args) (drop (order_of o) cs) ms n

  symbol_among : {c : _} (ps : Row_of-Pattern c) (s : Setting) (f : FuncRecord) → Keeps s f Missing → (bs : List Bound) (i : ℕ) (ids : List ℕ) (cs : List Bool) → MatchesEach f bs ps ids cs → NamesSymbolAmong i ps →
      FitsSymbol s f variable (aux_made bs (Some i))
  symbol_among end_of-Pattern s f k bs i ids cs m n = elim n [ ]
  symbol_among (more_of-Pattern p ps) s f k bs i [] cs m n = elim m [ ]
  symbol_among (more_of-Pattern p ps) s f k bs i (y ∷ ids) cs (m, ms) (inl n) = symbol_at p s f k bs i y cs m n
  symbol_among (more_of-Pattern p ps) s f k bs i (y ∷ ids) cs (m, ms) (inr n) = symbol_among ps s f k bs i ids (drop (orders p) cs) ms n

-- a symbol that the left tree names beside such an op is that of a variable of the package
pub symbol_named : (p : Pattern) (s : Setting) (f : FuncRecord) → Keeps s f Missing → (bs : List Bound) (i id : ℕ) (cs : List Bool) → Matches f bs p id cs → NamesSymbol i p → FitsSymbol s f variable (aux_made bs (Some i))
symbol_named p s f k bs i id cs m n = symbol_at p s f k bs i id cs m n
