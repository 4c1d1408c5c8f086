-- The writer's calls make exactly the text of the values, however the values are cut and however long the buffers are: the layout by columns is that by rows.
use Rattle.std.proofs.Common.{◌≡◌, ℕ, zero, suc, ◌+◌, ◌*◌, ◌/◌, ◌<◌, ◌≤◌, true, List, [], ◌∷◌, ◌++◌, length, take, drop, sym, refl, ap, ◌∙◌, append-nil, zero-add, arith, length-drop, take-append-drop, length-take}
use lib.Seq.{drop-length}
use Rattle.sequence.specs.Limits.{longest}
use Rattle.sequence.specs.Piece.{Offer, session}
use Rattle.sequence.specs.Text.{remainder}
use Rattle.sequence_writer.specs.Layout.{line_of, rows, text_of}
use Rattle.sequence_writer.specs.Writing.{is_done, blank, closing, writing}
use Rattle.sequence_writer.specs.declared.Writer.{Writer}
use Rattle.sequence.proofs.Cuts.{session_makes}
use Rattle.sequence_writer.proofs.Coming.{laid, coming_from, coming, laid_feed, laid_more, writing_makes, closing_comes, done_comes}

-- the values us end a line that n characters of it stand before
laid_line : (us vs : List ℕ) (n : ℕ) → 0 < n + 2 * length us → n + 2 * length us ≤ longest → (0 < length vs → n + 2 * length us ≡ longest) → laid n (us ++ vs) ≡ line_of us ++ laid 0 vs
unfolding line_of
laid_line [] vs n some room full = laid_feed n vs (omega arith) (λ h. omega (arith, full h))
laid_line (u ∷ us) vs n some room full = rw (laid_more n u (us ++ vs) (omega arith), laid_line us vs (n + 2) (omega arith) (omega arith) (λ h. omega (arith, full h)))

laid_rows : (n : ℕ) (vs : List ℕ) → length vs ≤ 32 * n → 32 * n < length vs + 32 → laid 0 vs ≡ rows n vs
unfolding rows laid
laid_rows zero [] fit full = refl
laid_rows zero (v ∷ vs) fit full = absurd (omega arith)
laid_rows (suc n) vs fit full =
    let front = length-take 32 vs in
    let back = length-drop 32 vs in
    ap (λ (l : List ℕ). laid 0 l) (sym (take-append-drop 32 vs))
    ∙ laid_line (take 32 vs) (drop 32 vs) 0 (omega arith) (omega arith) (λ h. omega arith)
    ∙ ap (λ (l : List ℕ). line_of (take 32 vs) ++ l) (laid_rows n (drop 32 vs) (omega arith) (omega arith))

pub blank_comes : (vs : List ℕ) → coming blank vs ≡ text_of vs
unfolding coming coming_from text_of remainder
blank_comes vs = rw (zero-add, laid_rows ((length vs + 31) / 32) vs (omega arith) (omega arith))

-- behind the last value the calls make all that is still to come
closing_makes : (w : Writer) (offers : List Offer) → is_done (session writing (closing w) [] offers).state.stage ≡ true → coming w [] ≡ (session writing (closing w) [] offers).made
closing_makes w offers done =
    let p = session writing (closing w) [] offers in
    sym (closing_comes w)
    ∙ session_makes writing coming writing_makes (closing w) [] offers
    ∙ ap (λ (l : List ℕ). p.made ++ l) (done_comes p.state (drop p.taken []) done)
    ∙ append-nil p.made

pub write_however_cut : (vs : List ℕ) (offers more : List Offer) → (session writing blank vs offers).taken ≡ length vs
    → is_done (session writing (closing (session writing blank vs offers).state) [] more).state.stage ≡ true
    → (session writing blank vs offers).made ++ (session writing (closing (session writing blank vs offers).state) [] more).made ≡ text_of vs
write_however_cut vs offers more all done =
    let p = session writing blank vs offers in
    let none : drop p.taken vs ≡ [] = rw all (drop-length vs) in
    sym (ap (λ (l : List ℕ). p.made ++ l) (ap (λ (l : List ℕ). coming p.state l) none ∙ closing_makes p.state more done))
    ∙ sym (session_makes writing coming writing_makes blank vs offers)
    ∙ blank_comes vs
