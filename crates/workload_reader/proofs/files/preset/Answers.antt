use Rattle.std.proofs.Common.{refl, ap, ◌∙◌, ◌∷◌, ◌++◌}
use Rattle.split_types.specs.Lines.{numeral}
use Rattle.workload_reader.proofs.Alike.{after_field, after_word, same_word, name_is_word}
use Rattle.workload_reader.proofs.files.preset.Goals as goal

pub returns-in_err-name : goal.returns-in_err-name
returns-in_err-name c = rw c.from_residual-in_err-name.ensures (λ f rest named e.
    absurd (cc (c.in_err-name.ensures.exact.1 (same_word f.name _ c.in_ok-word.ensures e named refl))))

pub returns-in_err-pages : goal.returns-in_err-pages
returns-in_err-pages c = rw c.from_residual-in_err-pages.ensures (λ f rest named e.
    c.in_err-pages.ensures f.pages _ (record {
      text_is = after_word f.name _ c.in_ok-word.ensures e named refl;
      ends = refl;
    }))

pub returns-in_err-fill : goal.returns-in_err-fill
returns-in_err-fill c = rw c.from_residual-in_err-fill.ensures (λ f rest named e.
    let e1 = after_word f.name _ c.in_ok-word.ensures e named refl in
    c.in_err-fill.ensures f.fill _ (record {
      text_is = after_field f.pages _ c.in_ok-pages.ensures.1 e1 refl;
      ends = refl;
    }))

pub returns-in_err-rest : goal.returns-in_err-rest
returns-in_err-rest c = rw c.from_residual-in_err-rest.ensures (λ f rest named e.
    let e1 = after_word f.name _ c.in_ok-word.ensures e named refl in
    let e2 = after_field f.pages _ c.in_ok-pages.ensures.1 e1 refl in
    c.in_err-rest.ensures rest (after_field f.fill _ c.in_ok-fill.ensures.1 e2 refl))

pub returns-in_err-word : goal.returns-in_err-word
returns-in_err-word c =
    rw c.from_residual.ensures (λ f rest named e. c.in_err-word.ensures f.name _ (name_is_word _ f.name _ e named refl))

pub returns : goal.returns
returns c = (
  record { name = c.in_ok-word.word.now; pages = c.in_ok-pages.ensures.0; fill = c.in_ok-fill.ensures.0 },
  c.in_ok-name.ensures.exact.0 refl,
  c.in_ok-word.ensures.text_is ∙ ap (λ l. 32 ∷ c.in_ok-word.word.now ++ l) (c.in_ok-pages.ensures.1.text_is
      ∙ ap (λ l. 32 ∷ numeral c.in_ok-pages.ensures.0 ++ l) (c.in_ok-fill.ensures.1.text_is
      ∙ ap (λ l. 32 ∷ numeral c.in_ok-fill.ensures.0 ++ l) c.in_ok-rest.ensures)),
  c.preset_of.ensures _ c.in_ok-name.ensures.same c.in_ok-pages.ensures.2 c.in_ok-fill.ensures.2,
)
