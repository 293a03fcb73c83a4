-- Lines of code in which other handles stand.
use Rattle.std.proofs.Common.{◌≡◌, ◌∙◌, refl, ap, ℕ, ◌+◌, List, [], ◌∷◌, ◌++◌, map, drop, true, false, Option, Some, None}
use Rattle.std.specs.List.{slice_get}
use Rattle.std.specs.Option.{option_map, unwrap_or}
use Rattle.std.proofs.lemmas.List.{map-append}
use Rattle.bk_piece.specs.declared.Handle.{Handle}
use Rattle.bk_piece.specs.declared.Patch.{Patch}
use Rattle.bk_piece.specs.Filled.{site_with}
use Rattle.bk_emit.specs.declared.lines.Line.{Line}
use Rattle.bk_emit.specs.declared.lines.Line.TheVariants as line
use Rattle.bk_emit.specs.Code.{branches_from, distance, widths, words_from, waits_from}
use Rattle.bk_emit.specs.Forms.{Forms}
use Rattle.bk_emit.specs.Lines.{opening}

-- a line with another handle in its place
abbrev pub renamed : (Handle → Handle) → Line → Line
renamed r (line.Word x) = line.Word x
renamed r (line.Open p h x) = line.Open p (r h) x
renamed r (line.Jump n) = line.Jump n
renamed r (line.Branch b n) = line.Branch b n

-- lines that have no handles
abbrev pub IsPlain : List Line → Type 0
IsPlain ls = (r : Handle → Handle) → map (renamed r) ls ≡ ls

pub plain_words : {I : Type 0} (word : I → ℕ) (is : List I) → IsPlain (map (λ i. line.Word (word i)) is)
plain_words word [] r = refl
plain_words word (i ∷ is) r = ap (λ ls. line.Word (word i) ∷ ls) (plain_words word is r)

pub plain_append : (ks ls : List Line) → IsPlain ks → IsPlain ls → IsPlain (ks ++ ls)
plain_append ks ls a b r =
    map-append (renamed r) ks ls ∙ (ap (λ xs. xs ++ map (renamed r) ls) (a r) ∙ ap (λ xs. ks ++ xs) (b r))

pub renamed_opening : (r : Handle → Handle) (p : Patch) (h : Option Handle) (x : ℕ) → opening p (option_map r h) x ≡ renamed r (opening p h x)
renamed_opening r p (Some h) x = refl
renamed_opening r p None x = refl

-- what does not depend on the handles: branches, widths and words
pub same_branches : (r : Handle → Handle) (s : ℕ → ℕ) (at : ℕ) (ls : List Line) → branches_from s at (map (renamed r) ls) ≡ branches_from s at ls
same_branches r s at [] = refl
same_branches r s at (line.Word x ∷ ls) = same_branches r s (at + 1) ls
same_branches r s at (line.Open p h x ∷ ls) = same_branches r s (at + 1) ls
same_branches r s at (line.Jump n ∷ ls) = ap (λ bs. record { at = at; target = s n; cond = false } ∷ bs) (same_branches r s (at + 1) ls)
same_branches r s at (line.Branch b n ∷ ls) = ap (λ bs. record { at = at; target = s n; cond = true } ∷ bs) (same_branches r s (at + 1) ls)

pub same_widths : (r : Handle → Handle) (zs : List ℕ) (ls : List Line) → widths zs (map (renamed r) ls) ≡ widths zs ls
same_widths r zs [] = refl
same_widths r zs (line.Word x ∷ ls) = ap (λ ws. 1 ∷ ws) (same_widths r zs ls)
same_widths r zs (line.Open p h x ∷ ls) = ap (λ ws. 1 ∷ ws) (same_widths r zs ls)
same_widths r zs (line.Jump n ∷ ls) = ap (λ ws. unwrap_or (slice_get zs 0) 1 ∷ ws) (same_widths r (drop 1 zs) ls)
same_widths r zs (line.Branch b n ∷ ls) = ap (λ ws. unwrap_or (slice_get zs 0) 1 ∷ ws) (same_widths r (drop 1 zs) ls)

pub same_words : (r : Handle → Handle) (m : Forms) (g : ℕ → ℕ) (at : ℕ) (ws : List ℕ) (ls : List Line) → words_from m g at ws (map (renamed r) ls) ≡ words_from m g at ws ls
same_words r m g at [] ls = refl
same_words r m g at (w ∷ ws) [] = refl
same_words r m g at (w ∷ ws) (line.Word x ∷ ls) = ap (λ xs. x ∷ xs) (same_words r m g (at + w) ws ls)
same_words r m g at (w ∷ ws) (line.Open p h x ∷ ls) = ap (λ xs. x ∷ xs) (same_words r m g (at + w) ws ls)
same_words r m g at (w ∷ ws) (line.Jump n ∷ ls) = ap (λ xs. m.jump w (distance at (g n)) ++ xs) (same_words r m g (at + w) ws ls)
same_words r m g at (w ∷ ws) (line.Branch b n ∷ ls) = ap (λ xs. m.branch b w (distance at (g n)) ++ xs) (same_words r m g (at + w) ws ls)

-- what is patched, with the other handles
pub renamed_waits : (r : Handle → Handle) (at : ℕ) (ws : List ℕ) (ls : List Line) → waits_from at ws (map (renamed r) ls) ≡ map (site_with r) (waits_from at ws ls)
renamed_waits r at [] ls = refl
renamed_waits r at (w ∷ ws) [] = refl
renamed_waits r at (w ∷ ws) (line.Word x ∷ ls) = renamed_waits r (at + w) ws ls
renamed_waits r at (w ∷ ws) (line.Open p h x ∷ ls) = ap (λ ss. (at, p, r h) ∷ ss) (renamed_waits r (at + w) ws ls)
renamed_waits r at (w ∷ ws) (line.Jump n ∷ ls) = renamed_waits r (at + w) ws ls
renamed_waits r at (w ∷ ws) (line.Branch b n ∷ ls) = renamed_waits r (at + w) ws ls
