-- Figures on a line.
use Rattle.std.specs.Prelude.{ℕ, List, [], ◌∷◌, ◌++◌, codes, decimal}
use Rattle.control_text.specs.declared.figures.Figure.{Figure}

-- a name and a number
abbrev pub figure_text : Figure → List ℕ
figure_text figure = figure.name.now ++ codes " " ++ decimal figure.value

-- figures, each behind a space
abbrev pub group_text : List Figure → List ℕ
group_text [] = []
group_text (figure ∷ figures) = codes " " ++ figure_text figure ++ group_text figures

-- figures from the beginning of a line on
abbrev pub figures_text : List Figure → List ℕ
figures_text [] = []
figures_text (figure ∷ figures) = figure_text figure ++ group_text figures
