-- Steps of the loop over symbols.
use Rattle.std.proofs.Common.{◌≡◌, ℕ, ◌+◌, ◌<◌, ◌≤◌, ◌^◌, true, nat_lt, nat_le, IsTrue, List, [], ◌∷◌, ◌++◌, length, drop, get_or, sym, ap, ◌∙◌, arith, length-append}
use Rattle.std.proofs.lemmas.List.{drop_more, drop_all, append_assoc, append-nil}
use Rattle.std.proofs.lemmas.Bool.{and_parts, ltb-true, leb-true}
use Rattle.std.specs.List.{flat_map, list_all}
use Rattle.bk_ops.specs.declared.types.Target.{Target}
use Rattle.bk_elf.specs.Fields.{spelled}
use Rattle.bk_elf.specs.Tables.{ended, symbol_entry}
use Rattle.bk_elf.specs.Lists.{rises_from}
use Rattle.bk_elf.specs.Object.{are_codes}
use Rattle.bk_elf.specs.Records.{SymbolRecord}
use Rattle.bk_elf.specs.Contents.{names_of, name_bytes, entry_bytes}

-- what is written and the symbols that are left, after one more, and at the end
pub entry_more : (out : List ℕ) (t : Target) (place : ℕ) (ss : List SymbolRecord) (i : ℕ) (s : SymbolRecord) → i < length ss → s ≡ get_or ss i s
    → out ++ entry_bytes t place (drop i ss)
    ≡ (out ++ spelled (symbol_entry t place s.func s.address s.size)) ++ entry_bytes t (place + length s.name + 1) (drop (i + 1) ss)
unfolding entry_bytes
entry_more out t place ss i s lt is =
    rw (drop_more ss i s lt, ← is) (sym (append_assoc out (spelled (symbol_entry t place s.func s.address s.size)) (entry_bytes t (place + length s.name + 1) (drop (i + 1) ss))))

pub entry_end : (out : List ℕ) (t : Target) (place : ℕ) (ss : List SymbolRecord) (i : ℕ) → length ss ≤ i → out ++ entry_bytes t place (drop i ss) ≡ out
unfolding entry_bytes
entry_end out t place ss i le = rw (drop_all i ss le) (append-nil out)

-- the bytes of the names that are left
pub name_more : (ss : List SymbolRecord) (i : ℕ) (s : SymbolRecord) → i < length ss → s ≡ get_or ss i s
    → length (flat_map ended (names_of (drop i ss))) ≡ length s.name + 1 + length (flat_map ended (names_of (drop (i + 1) ss)))
name_more ss i s lt is =
    rw (drop_more ss i s lt, ← is) (length-append (ended s.name) (flat_map ended (names_of (drop (i + 1) ss))) ∙ ap (λ n. n + length (flat_map ended (names_of (drop (i + 1) ss)))) (length-append s.name (0 ∷ [])))

pub name_size : (names : List (List ℕ)) → length (name_bytes names) ≡ 1 + length (flat_map ended names)
unfolding name_bytes
name_size names = omega arith

rising_few : (low : ℕ) (xs : List ℕ) → low ≤ 13 → rises_from low xs ≡ true → list_all (λ c. nat_le c 13) xs ≡ true → length xs + low ≤ 13
rising_few low [] le up small = omega arith
rising_few low (x ∷ xs) le up small =
    let u = and_parts (nat_lt low x) (rises_from x xs) up in
    let s = and_parts (nat_le x 13) (list_all (λ c. nat_le c 13) xs) small in
    let above = ltb-true low x u.0 in
    let below = leb-true x 13 s.0 in
    let rest = rising_few x xs below u.1 s.1 in
    omega arith

-- codes are few enough for a word
pub codes_few : (codes : List ℕ) → IsTrue (are_codes codes) → length codes < 2 ^ 32
codes_few codes h =
    let p = and_parts (rises_from 0 codes) (list_all (λ c. nat_le c 13) codes) h in
    let n = rising_few 0 codes (omega arith) p.0 p.1 in
    omega arith
