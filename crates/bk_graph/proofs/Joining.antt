-- Blocks whose numbers and edges agree, one by one, are joined.
use Rattle.std.proofs.Common.{◌≡◌, ◌∙◌, sym, refl, ap, subst, ℕ, zero, suc, ◌+◌, ◌*◌, ◌^◌, ◌<◌, ◌==◌, cond, Bool, true, false, List, [], ◌∷◌, length, get_or, position, Some, ⊎_elim, arith, zero-add}
use Rattle.std.specs.List.{All, list_any, count_by, slice_get}
use Rattle.std.proofs.lemmas.Bool.{cases_eq, eq-eqb, ne_eqb, eqb-true}
use Rattle.std.proofs.lemmas.List.Quantifiers.{position-Some}
use Rattle.std.proofs.lemmas.List.Sums.{sum_by-cons}
use Rattle.std.proofs.lemmas.Option.{same_Some, slice_get-get_or}
use Rattle.bk_func.specs.Edits.{greatest_block}
use Rattle.bk_func.specs.Records.{BlockRecord, FuncRecord}
use Rattle.bk_func.specs.Form.Parts.{IsBlockNumber}
use Rattle.bk_func.specs.Form.Text.{HasBlock}
use Rattle.bk_graph.specs.Joined.{IsJoined}
use Rattle.bk_graph.specs.Joining.{Leads, Follows, AgreesAt}
use Rattle.bk_graph.specs.Named.{block_ids}
use Rattle.bk_graph.proofs.Putting.{block_at}

none : (n : ℕ) (d : BlockRecord) (cs : List BlockRecord) → ((q : ℕ) → q < length cs → (get_or cs q d).id ≡ n → ⊥) → count_by (λ c. c.id == n) cs ≡ 0
none n d [] h = refl
none n d (c ∷ cs) h =
    let s = sum_by-cons (λ (x : BlockRecord). cond (x.id == n) 1 0) c cs in
    s ∙ (rw (ne_eqb c.id n (λ e. h 0 (omega arith) e)) (zero-add (count_by (λ (x : BlockRecord). x.id == n) cs) ∙ none n d cs (λ q l e. h (suc q) (omega (arith, l)) e)))

sole : (d : BlockRecord) (bs : List BlockRecord) → ((p q : ℕ) → p < length bs → q < length bs → (get_or bs p d).id ≡ (get_or bs q d).id → p ≡ q)
    → (k : ℕ) → k < length bs → count_by (λ c. c.id == (get_or bs k d).id) bs ≡ 1
sole d [] h k l = absurd (omega (arith, l))
sole d (c ∷ cs) h zero l =
    let s = sum_by-cons (λ (x : BlockRecord). cond (x.id == c.id) 1 0) c cs in
    let rest : count_by (λ x. x.id == c.id) cs ≡ 0 = none c.id d cs (λ q m e. let z = h 0 (suc q) (omega arith) (omega (arith, m)) (sym e) in omega (arith, z)) in
    s ∙ (rw (eq-eqb c.id c.id refl, rest) refl)
sole d (c ∷ cs) h (suc k) l =
    let n : ℕ = (get_or cs k d).id in
    let s = sum_by-cons (λ (x : BlockRecord). cond (x.id == n) 1 0) c cs in
    s ∙ (rw (ne_eqb c.id n (λ e. let z = h 0 (suc k) (omega arith) l e in omega (arith, z)))
    (zero-add (count_by (λ (x : BlockRecord). x.id == n) cs) ∙ sole d cs (λ p q a b e. let z = h (suc p) (suc q) (omega (arith, a)) (omega (arith, b)) e in omega (arith, z)) k (omega (arith, l))))

all_any : (P : ℕ → Type 0) (n : ℕ) (xs : List ℕ) → All P xs → list_any (λ m. m == n) xs ≡ true → P n
all_any P n [] h e = absurd (let z : false ≡ true = e in cc)
all_any P n (x ∷ xs) h e = ⊎_elim
    (λ (same : x ≡ n). subst P same (h 0 x (omega arith)))
    (λ (other : x ≡ n → ⊥). all_any P n xs (λ k d l. h (suc k) d (omega (arith, l))) (rw (ne_eqb x n other) at e))
    (cases_eq x n)

both : (x y : Bool) → (x ≡ true → y ≡ true) → (y ≡ true → x ≡ true) → x ≡ y
both true true f g = refl
both true false f g = sym (f refl)
both false true f g = g refl
both false false f g = refl

number : (f : FuncRecord) (n : ℕ) → count_by (λ c. c.id == n) f.blocks ≡ 1 → IsBlockNumber f n
unfolding IsBlockNumber
number f n h = h

module _ (f : FuncRecord) (agrees : (p : ℕ) (b : BlockRecord) → slice_get f.blocks p ≡ Some b → AgreesAt f.blocks p b) where
  at : (b : BlockRecord) → (h : HasBlock f b) → slice_get f.blocks h.0 ≡ Some b
  at b (k, l, r) = slice_get-get_or f.blocks k b l ∙ ap Some r

  apart : (d : BlockRecord) (p q : ℕ) → p < length f.blocks → q < length f.blocks → (get_or f.blocks p d).id ≡ (get_or f.blocks q d).id → p ≡ q
  apart d p q l m e =
      let a = (agrees p (get_or f.blocks p d) (slice_get-get_or f.blocks p d l)).first in
      let b = (agrees q (get_or f.blocks q d) (slice_get-get_or f.blocks q d m)).first in
      same_Some p q (sym a ∙ ap (λ n. position (λ x. x == n) (block_ids f.blocks)) e ∙ b)

  own : (b : BlockRecord) → HasBlock f b → IsBlockNumber f b.id
  own b (k, l, r) = number f b.id (subst (λ (x : BlockRecord). count_by (λ c. c.id == x.id) f.blocks ≡ 1) r (sole b f.blocks (apart b) k l))

  numbered : (n p : ℕ) (b : BlockRecord) → position (λ x. x == n) (block_ids f.blocks) ≡ Some p → slice_get f.blocks p ≡ Some b → b.id ≡ n
  numbered n p b first there =
      let own = (agrees p b there).first in
      let here = position-Some (λ x. x == n) (block_ids f.blocks) p 0 first in
      let mine = position-Some (λ x. x == b.id) (block_ids f.blocks) p 0 own in
      sym (eqb-true (get_or (block_ids f.blocks) p 0) b.id mine.1) ∙ eqb-true (get_or (block_ids f.blocks) p 0) n here.1

  named : (b : BlockRecord) → HasBlock f b → All (IsBlockNumber f) b.succs
  named b h = λ k d l.
      let leads = (agrees h.0 b (at b h)).out k d l in
      subst (IsBlockNumber f) (numbered (get_or b.succs k d) leads.place leads.block leads.first leads.there) (own leads.block (block_at f leads.place leads.block leads.there))

  same_block : (a c : BlockRecord) (p : ℕ) → HasBlock f a → position (λ x. x == a.id) (block_ids f.blocks) ≡ Some p → slice_get f.blocks p ≡ Some c → c ≡ a
  same_block a c p h first there =
      let k = same_Some p h.0 (sym first ∙ (agrees h.0 a (at a h)).first) in
      same_Some c a (sym there ∙ ap (slice_get f.blocks) k ∙ at a h)

  agree : (a b : BlockRecord) → HasBlock f a → HasBlock f b → list_any (λ m. m == a.id) b.preds ≡ list_any (λ n. n == b.id) a.succs
  agree a b i j = both (list_any (λ m. m == a.id) b.preds) (list_any (λ n. n == b.id) a.succs)
      (λ e.
      let follows = all_any (Follows f.blocks b.id) a.id b.preds (agrees j.0 b (at b j)).into e in
      subst (λ (c : BlockRecord). list_any (λ n. n == b.id) c.succs ≡ true) (same_block a follows.block follows.place i follows.first follows.there) follows.succ)
      (λ e.
      let leads = all_any (Leads f.blocks a.id) b.id a.succs (agrees i.0 a (at a i)).out e in
      subst (λ (c : BlockRecord). list_any (λ m. m == a.id) c.preds ≡ true) (same_block b leads.block leads.place j leads.first leads.there) leads.pred)

  pub joined_by : greatest_block f + length f.blocks * 2 < 2 ^ 32 → IsJoined f
  joined_by room = record {
    own = own;
    named = named;
    agree = agree;
    few = λ b h. (agrees h.0 b (at b h)).few;
    room = room;
  }

-- one more block that agrees
pub agrees_more : (bs : List BlockRecord) (i p : ℕ) (c b : BlockRecord) → ((q : ℕ) (x : BlockRecord) → q < i → slice_get bs q ≡ Some x → AgreesAt bs q x)
    → i < length bs → c ≡ get_or bs i c → AgreesAt bs i c → p < i + 1 → slice_get bs p ≡ Some b → AgreesAt bs p b
agrees_more bs i p c b before l is here below there = ⊎_elim
    (λ (same : p ≡ i).
    let one : c ≡ b = same_Some c b (ap Some is ∙ sym (slice_get-get_or bs i c l) ∙ ap (slice_get bs) (sym same) ∙ there) in
    subst (λ k. AgreesAt bs k b) (sym same) (subst (AgreesAt bs i) one here))
    (λ (other : p ≡ i → ⊥). before p b (omega (arith, below, other)) there)
    (cases_eq p i)
