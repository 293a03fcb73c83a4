-- The tokens that were found before a place of a line.
use Rattle.std.proofs.Common.{◌≡◌, ◌≤◌, ◌<◌, ◌-◌, ℕ, Bool, true, false, List, [], ◌∷◌, ◌++◌, All, AllPairs, Any, arith, get_or, length, length-append, inl, inr, ◌∙◌}
use Rattle.std.proofs.lemmas.Bool.{cases_lt}
use Rattle.std.proofs.lemmas.List.{get_or_append_left}
use Rattle.std.proofs.lemmas.List.Elements.{All-nil, All-push}
use Rattle.std.proofs.lemmas.List.Quantifiers.{Any-push, all_pairs_push}
use Rattle.bk_text.specs.Tokens.{AreTokens, Covers, IsRun, is_blank}
use Rattle.bk_text.specs.declared.Token.{Token}

-- all the maximal runs of a line before a place
pub record Found (line : List ℕ) (place : ℕ) (tokens : List Token) : Type 0 where
  pub runs : All (IsRun line) tokens
  pub before : All (λ token. token.end ≤ place) tokens
  pub rising : AllPairs (λ one later. one.end ≤ later.start) tokens
  pub complete : (k : ℕ) → k < place → is_blank (get_or line k 0) ≡ false → Any (Covers k) tokens

pub never : (b : Bool) → b ≡ true → b ≡ false → ⊥
never b holds fails = cc

-- what holds of some token holds of some token of a longer list
any_more : (P : Token → Type 0) (xs ys : List Token) → Any P xs → Any P (xs ++ ys)
any_more P xs ys (k, x, l, e, p) = (k, x, omega (arith, length-append xs ys), get_or_append_left xs ys x k l ∙ e, p)

-- what is passed over from a place on is a run
pub run_made : (line : List ℕ) (start end : ℕ) → start < length line → (0 < start → start < length line → is_blank (get_or line (start - 1) 0) ≡ true) → (start < length line → is_blank (get_or line start 0) ≡ false) → start ≤ end → end ≤ length line → ((k : ℕ) → start ≤ k → k < end → is_blank (get_or line k 0) ≡ false) → (end < length line → is_blank (get_or line end 0) ≡ true) → IsRun line record { start = start; end = end }
run_made line start end l begun stops from within solid ended = record {
  some = elim (cases_lt start end) [
    | inl h ↦ h
    | inr h ↦
        let same : end ≡ start = omega arith in
        absurd (never (is_blank (get_or line start 0)) (rw same at ended (omega arith)) (stops l))
  ];
  within = within;
  solid = solid;
  begun = λ h. begun h l;
  ended = ended;
}

-- a blank stands before the next token
pub begun_next : (line : List ℕ) (end next : ℕ) → end ≤ next → (end < length line → is_blank (get_or line end 0) ≡ true) → ((k : ℕ) → end ≤ k → k < next → is_blank (get_or line k 0) ≡ true) → (next < length line → is_blank (get_or line next 0) ≡ false) → 0 < next → next < length line → is_blank (get_or line (next - 1) 0) ≡ true
begun_next line end next from ended blanks stops p l = elim (cases_lt end next) [
  | inl h ↦ blanks (next - 1) (omega arith) (omega arith)
  | inr h ↦
      let same : end ≡ next = omega arith in
      absurd (never (is_blank (get_or line next 0)) (rw same at ended (omega arith)) (stops l))
]

-- only blanks so far
pub found_none : (line : List ℕ) (place : ℕ) → ((k : ℕ) → 0 ≤ k → k < place → is_blank (get_or line k 0) ≡ true) → Found line place []
found_none line place blanks = record {
  runs = All-nil (IsRun line);
  before = All-nil (λ token. token.end ≤ place);
  rising = λ i j d h l. absurd (omega arith);
  complete = λ k l e. absurd (never (is_blank (get_or line k 0)) (blanks k (omega arith) l) e);
}

-- one token more, and then blanks
pub found_more : (line : List ℕ) (start end next : ℕ) (tokens : List Token) → Found line start tokens → IsRun line record { start = start; end = end } → end ≤ next → ((k : ℕ) → end ≤ k → k < next → is_blank (get_or line k 0) ≡ true) → Found line next (tokens ++ record { start = start; end = end } ∷ [])
found_more line start end next tokens found run l blanks =
    let token : Token = record { start = start; end = end } in
    record {
      runs = All-push (IsRun line) tokens token found.runs run;
      before = All-push (λ t. t.end ≤ next) tokens token (λ k d h. omega (arith, found.before k d h, run.some)) l;
      rising = all_pairs_push (λ one later. one.end ≤ later.start) tokens token found.rising found.before;
      complete = λ k h e. elim (cases_lt k start) [
        | inl before ↦ any_more (Covers k) tokens (token ∷ []) (found.complete k before e)
        | inr from ↦ elim (cases_lt k end) [
          | inl inside ↦ Any-push (Covers k) tokens token (from, inside)
          | inr past ↦ absurd (never (is_blank (get_or line k 0)) (blanks k past h) e)
        ]
      ];
    }

-- all were found at the line's end
pub found_all : (line : List ℕ) (place : ℕ) (tokens : List Token) → Found line place tokens → length line ≤ place → AreTokens line tokens
found_all line place tokens found l = record {
  runs = found.runs;
  rising = found.rising;
  complete = λ k h e. found.complete k (omega arith) e;
}
