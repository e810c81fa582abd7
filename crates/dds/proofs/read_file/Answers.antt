-- `read_file` meets its contract.
-- Assumes nothing.
use mathlib.Core.Path.{◌∙◌, ap, refl, sym}
use native.Mathlib.Omega.{arith}
use Rattle.refusals.proofs.Answers.{number_not_0}
use Rattle.head_rules.specs.Answers.{head_answered}
use Rattle.head_rules.proofs.Answers.{passed_up}
use Rattle.dds_rules.specs.Header.{format_says}
use Rattle.dds_rules.proofs.Textures.{texture}
use Rattle.dds.proofs.Reading.{a_head, another, no_length, no_size, sides}
use Rattle.dds.proofs.read_file.Goals as goal

pub returns-then-not-is_texture : goal.returns-then-not-is_texture
returns-then-not-is_texture c = another _ (sym c.is_texture.ensures ∙ c.if-not-is_texture.true)

pub number_at-height-requires : goal.number_at-height-requires
number_at-height-requires c = omega (arith, (texture _ (sym c.is_texture.ensures ∙ c.if-not-is_texture.false)).long)

pub number_at-width-requires : goal.number_at-width-requires
number_at-width-requires c = omega (arith, (texture _ (sym c.is_texture.ensures ∙ c.if-not-is_texture.false)).long)

pub number_at-requires : goal.number_at-requires
number_at-requires c = omega (arith, (texture _ (sym c.is_texture.ensures ∙ c.if-not-is_texture.false)).long)

pub returns-in_err-written : goal.returns-in_err-written
returns-in_err-written c =
    let t = texture _ (sym c.is_texture.ensures ∙ c.if-not-is_texture.false) in
    ap head_answered (passed_up _ c.from_residual.ensures.1)
    ∙ no_size _ t c.number_at-width.ensures c.number_at-height.ensures c.in_err-written.ensures (number_not_0 _)

pub file_length-requires : goal.file_length-requires
file_length-requires c = sides _ _ c.in_ok-written.ensures refl

pub returns-then-dds-file_length : goal.returns-then-dds-file_length
returns-then-dds-file_length c =
    let t = texture _ (sym c.is_texture.ensures ∙ c.if-not-is_texture.false) in
    no_length _ t c.number_at-width.ensures c.number_at-height.ensures c.in_ok-written.ensures refl c.from.ensures
    (c.format_says-colour_space.ensures ∙ ap format_says c.number_at.ensures) (λ l. c.if-dds-file_length.true (l ∙ sym c.file_length.ensures))

pub returns : goal.returns
returns c =
    let t = texture _ (sym c.is_texture.ensures ∙ c.if-not-is_texture.false) in
    a_head _ t c.number_at-width.ensures c.number_at-height.ensures c.in_ok-written.ensures refl c.from.ensures
    (c.format_says-colour_space.ensures ∙ ap format_says c.number_at.ensures) (c.if-dds-file_length.false ∙ c.file_length.ensures)
