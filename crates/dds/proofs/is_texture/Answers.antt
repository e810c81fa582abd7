-- `is_texture` meets its contract.
-- Assumes nothing.
use mathlib.Core.Path.{◌∙◌, sym}
use native.Mathlib.Omega.{arith}
use Rattle.dds_rules.proofs.Textures.{a_texture, no_texture}
use Rattle.dds.proofs.is_texture.Goals as goal

pub returns-then-dds-lt-HEADER : goal.returns-then-dds-lt-HEADER
returns-then-dds-lt-HEADER c = no_texture _ (λ t. omega (arith, t.long))

pub returns-then-number_at-ne-DDS : goal.returns-then-number_at-ne-DDS
returns-then-number_at-ne-DDS c = no_texture _ (λ t. c.if-number_at-ne-DDS.true (c.number_at.ensures ∙ t.magic_is))

pub returns-then-number_at-ne124 : goal.returns-then-number_at-ne124
returns-then-number_at-ne124 c = no_texture _ (λ t. c.if-number_at-ne124.true (c.number_at-2.ensures ∙ t.header_size_is))

pub returns-then-number_at-ne32 : goal.returns-then-number_at-ne32
returns-then-number_at-ne32 c = no_texture _ (λ t. c.if-number_at-ne32.true (c.number_at-3.ensures ∙ t.format_size_is))

pub returns-then-number_at-ne-DX10 : goal.returns-then-number_at-ne-DX10
returns-then-number_at-ne-DX10 c = no_texture _ (λ t. c.if-number_at-ne-DX10.true (c.number_at-4.ensures ∙ t.code_is))

pub returns-then-format-lt-BC7 : goal.returns-then-format-lt-BC7
returns-then-format-lt-BC7 c = no_texture _ (λ t. omega (arith, c.number_at-format.ensures, t.format_from))

pub returns-then-format-gt-BC7_SRGB : goal.returns-then-format-gt-BC7_SRGB
returns-then-format-gt-BC7_SRGB c = no_texture _ (λ t. omega (arith, c.number_at-format.ensures, t.format_to))

pub returns-then-number_at-ne-TWO_DIMENSIONS : goal.returns-then-number_at-ne-TWO_DIMENSIONS
returns-then-number_at-ne-TWO_DIMENSIONS c = no_texture _ (λ t. c.if-number_at-ne-TWO_DIMENSIONS.true (c.number_at-5.ensures ∙ t.dimension_is))

pub returns-then-number_at-ne1 : goal.returns-then-number_at-ne1
returns-then-number_at-ne1 c = no_texture _ (λ t. c.if-number_at-ne1.true (c.number_at-6.ensures ∙ t.array_size_is))

pub returns-then-number_at-gt1 : goal.returns-then-number_at-gt1
returns-then-number_at-gt1 c = no_texture _ (λ t. omega (arith, c.number_at-7.ensures, t.few_levels))

pub returns-then-number_at-ne0 : goal.returns-then-number_at-ne0
returns-then-number_at-ne0 c = no_texture _ (λ t. c.if-number_at-ne0.true (rw c.number_at-8.ensures t.no_cube))

pub returns : goal.returns
returns c =
    a_texture _ (record {
      long = c.if-dds-lt-HEADER.false;
      magic_is = sym c.number_at.ensures ∙ c.if-number_at-ne-DDS.false;
      header_size_is = sym c.number_at-2.ensures ∙ c.if-number_at-ne124.false;
      format_size_is = sym c.number_at-3.ensures ∙ c.if-number_at-ne32.false;
      code_is = sym c.number_at-4.ensures ∙ c.if-number_at-ne-DX10.false;
      format_from = omega (arith, c.number_at-format.ensures, c.if-format-lt-BC7.false);
      format_to = omega (arith, c.number_at-format.ensures, c.if-format-gt-BC7_SRGB.false);
      dimension_is = sym c.number_at-5.ensures ∙ c.if-number_at-ne-TWO_DIMENSIONS.false;
      array_size_is = sym c.number_at-6.ensures ∙ c.if-number_at-ne1.false;
      few_levels = omega (arith, c.number_at-7.ensures, c.if-number_at-gt1.false);
      no_cube = rw (← c.number_at-8.ensures) c.if-number_at-ne0.false;
    })
