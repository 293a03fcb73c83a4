-- Signatures are spelled by the keys of types.
use Rattle.std.proofs.Common.{◌≡◌, ◌∙◌, ◌≢◌, ap, sym, subst, refl, ℕ, zero, suc, ◌<◌, ◌≤◌, List, [], ◌∷◌, length, map, take, drop, get_or, Some, unwrap_or, arith, ⊎_elim, length-append}
use Rattle.std.specs.List.{All, Contains}
use Rattle.std.specs.Option.{IsSomeAnd}
use Rattle.std.proofs.lemmas.Bool.{cases_lt}
use Rattle.std.proofs.lemmas.List.{length-map, get_or_past, take-map, drop-map, take-append-drop}
use Rattle.std.proofs.lemmas.List.Elements.{All-nil, All-cons, All-map, All-take, All-drop, All-weaker, All-contains, Contains-get_or}
use Rattle.std.proofs.lemmas.Simd.{map-map}
use Rattle.bk_ops.specs.Types.{code_of}
use Rattle.bk_ops.specs.declared.types.Ty.TheVariants.{Mem}
use Rattle.bk_func.specs.Records.{FuncRecord}
use Rattle.bk_piece.specs.declared.Handle.{Handle}
use Rattle.bk_piece.specs.Filled.{area, filled, key_at, word_of}
use Rattle.bk_piece.specs.Pieces.{PieceRecord}
use Rattle.bk_piece.specs.Rising.{keys_in}
use Rattle.bk_piece.proofs.Full.{in_keys}
use Rattle.bk_elf.specs.Loading.{type_of_code}
use Rattle.bk_elf.specs.Object.{IsCoded, IsSig}
use Rattle.bk_link.specs.Conditions.{IsHandle, IsTyped, AreTyped}
use Rattle.bk_link.specs.Linked.{type_of, sig_of, sigs_of}

-- each number from 1 to 13 is the code of a type
coded : (w : ℕ) → w ≢ 0 → w ≤ 13 → code_of (unwrap_or (type_of_code w) Mem) ≡ Some w
coded zero ne le = absurd (ne refl)
coded (suc zero) ne le = refl
coded (suc (suc zero)) ne le = refl
coded (suc (suc (suc zero))) ne le = refl
coded (suc (suc (suc (suc zero)))) ne le = refl
coded (suc (suc (suc (suc (suc zero))))) ne le = refl
coded (suc (suc (suc (suc (suc (suc zero)))))) ne le = refl
coded (suc (suc (suc (suc (suc (suc (suc zero))))))) ne le = refl
coded (suc (suc (suc (suc (suc (suc (suc (suc zero)))))))) ne le = refl
coded (suc (suc (suc (suc (suc (suc (suc (suc (suc zero))))))))) ne le = refl
coded (suc (suc (suc (suc (suc (suc (suc (suc (suc (suc zero)))))))))) ne le = refl
coded (suc (suc (suc (suc (suc (suc (suc (suc (suc (suc (suc zero))))))))))) ne le = refl
coded (suc (suc (suc (suc (suc (suc (suc (suc (suc (suc (suc (suc zero)))))))))))) ne le = refl
coded (suc (suc (suc (suc (suc (suc (suc (suc (suc (suc (suc (suc (suc zero))))))))))))) ne le = refl
coded (suc (suc (suc (suc (suc (suc (suc (suc (suc (suc (suc (suc (suc (suc w)))))))))))))) ne le = absurd (omega (arith, le))

-- a word other than 0 stands in a cell
pub in_cells : (words : List ℕ) (cell : ℕ) → get_or words cell 0 ≢ 0 → cell < length words
in_cells words cell ne = ⊎_elim (λ l. l) (λ l. absurd (ne (get_or_past words cell 0 l))) (cases_lt cell (length words))

-- the cell of a handle
pub cell_within : (words : List (List ℕ)) (a : ℕ) (h : Handle) → IsHandle words a h → h.cell < length (area words a)
cell_within words a h is = in_cells (area words a) h.cell (subst (λ x. get_or (area words x) h.cell 0 ≢ 0) is.0 is.1)

-- a handle of a type stands for one of the codes
type_is : (words : List (List ℕ)) (h : Handle) → All (λ w. w ≤ 13) (area words 1) → IsHandle words 1 h → IsCoded (keys_in (area words 1)) (type_of (key_at words h))
type_is words h codes is =
    let w = word_of words h in
    let lt = cell_within words 1 h is in
    let same : get_or (area words 1) h.cell 0 ≡ w = ap (λ a. get_or (area words a) h.cell 0) (sym is.0) in
    let has : Contains (area words 1) w = subst (Contains (area words 1)) same (Contains-get_or (area words 1) h.cell 0 lt) in
    let le : w ≤ 13 = All-contains (λ w. w ≤ 13) (area words 1) w codes has in
    subst (λ o. IsSomeAnd o (Contains (keys_in (area words 1)))) (sym (coded w is.1 le)) (in_keys (area words 1) w is.1 has)

sig_is : (words : List (List ℕ)) (f : FuncRecord) (p : PieceRecord) → All (λ w. w ≤ 13) (area words 1) → IsTyped words f p → IsSig (keys_in (area words 1)) (sig_of f (filled words p))
sig_is words f p codes t =
    let cs = keys_in (area words 1) in
    let n = length f.sig.args in
    let ks = map (key_at words) p.types in
    let all : All (λ k. IsCoded cs (type_of k)) ks = All-map (λ k. IsCoded cs (type_of k)) (key_at words) p.types (All-weaker (IsHandle words 1) (λ h. IsCoded cs (type_of (key_at words h))) (λ h is. type_is words h codes is) p.types t.keys) in
    record {
      few = omega (arith, length-map (take n ks) type_of, length-map (drop n ks) type_of, length-append (take n ks) (drop n ks), ap length (take-append-drop n ks), length-map p.types (key_at words), t.few, t.long);
      args = All-map (IsCoded cs) type_of (take n ks) (All-take (λ k. IsCoded cs (type_of k)) n ks all);
      results = All-map (IsCoded cs) type_of (drop n ks) (All-drop (λ k. IsCoded cs (type_of k)) n ks all);
    }

pub sigs_are : (words : List (List ℕ)) (fs : List FuncRecord) (ps : List PieceRecord) → All (λ w. w ≤ 13) (area words 1) → AreTyped words fs ps
    → All (IsSig (keys_in (area words 1))) (sigs_of fs (map (filled words) ps))
sigs_are words [] [] codes t = All-nil (IsSig (keys_in (area words 1)))
sigs_are words [] (p ∷ ps) codes t = absurd t
sigs_are words (f ∷ fs) [] codes t = absurd t
sigs_are words (f ∷ fs) (p ∷ ps) codes t =
    All-cons (IsSig (keys_in (area words 1))) (sig_of f (filled words p)) (sigs_of fs (map (filled words) ps)) (sig_is words f p codes t.0) (sigs_are words fs ps codes t.1)

pub sig_count : (words : List (List ℕ)) (fs : List FuncRecord) (ps : List PieceRecord) → AreTyped words fs ps → length (sigs_of fs (map (filled words) ps)) ≡ length fs
sig_count words [] [] t = refl
sig_count words [] (p ∷ ps) t = absurd t
sig_count words (f ∷ fs) [] t = absurd t
sig_count words (f ∷ fs) (p ∷ ps) t = ap suc (sig_count words fs ps t.1)

-- there is a piece for each function
pub piece_count : (words : List (List ℕ)) (fs : List FuncRecord) (ps : List PieceRecord) → AreTyped words fs ps → length ps ≡ length fs
piece_count words [] [] t = refl
piece_count words [] (p ∷ ps) t = absurd t
piece_count words (f ∷ fs) [] t = absurd t
piece_count words (f ∷ fs) (p ∷ ps) t = ap suc (piece_count words fs ps t.1)

-- the types of a part of the handles
pub types_are : (words : List (List ℕ)) (hs : List Handle) → map (λ h. type_of (key_at words h)) hs ≡ map type_of (map (key_at words) hs)
types_are words hs = sym (map-map type_of (key_at words) hs)

pub first_types : (words : List (List ℕ)) (n : ℕ) (hs : List Handle) → map (λ h. type_of (key_at words h)) (take n hs) ≡ map type_of (take n (map (key_at words) hs))
first_types words n hs = types_are words (take n hs) ∙ ap (map type_of) (sym (take-map (key_at words) n hs))

pub last_types : (words : List (List ℕ)) (n : ℕ) (hs : List Handle) → map (λ h. type_of (key_at words h)) (drop n hs) ≡ map type_of (drop n (map (key_at words) hs))
last_types words n hs = types_are words (drop n hs) ∙ ap (map type_of) (sym (drop-map (key_at words) n hs))
