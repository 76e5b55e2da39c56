-- Figures on a line, one after another.
use Rattle.std.proofs.Common.{◌≡◌, ◌≤◌, ◌<◌, ◌+◌, ℕ, List, ◌++◌, codes, length, get_or, drop, sym, ap, ◌∙◌}
use Rattle.std.proofs.lemmas.List.{append_assoc, append-nil, at_drop_more, at_drop_all}
use Rattle.control_text.specs.declared.figures.Figure.{Figure}
use Rattle.control_text.specs.Figures.{figure_text, group_text}

-- one more
pub group_next : (figures : List Figure) (i : ℕ) (d : Figure) (done all : List ℕ) → i < length figures → done ++ group_text (drop i figures) ≡ all
    → (done ++ (codes " " ++ figure_text (get_or figures i d))) ++ group_text (drop (i + 1) figures) ≡ all
group_next figures i d done all below e =
    append_assoc done (codes " " ++ figure_text (get_or figures i d)) (group_text (drop (i + 1) figures))
    ∙ ap (λ l. done ++ l) (sym (at_drop_more group_text figures i d below)) ∙ e

-- all of them
pub group_all : (figures : List Figure) (i : ℕ) (done all : List ℕ) → length figures ≤ i → done ++ group_text (drop i figures) ≡ all → done ≡ all
group_all figures i done all behind e = sym (append-nil done) ∙ ap (λ l. done ++ l) (sym (at_drop_all group_text figures i behind)) ∙ e
