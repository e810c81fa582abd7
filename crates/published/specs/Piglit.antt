-- piglit's block of each mode and the pixels that it expects, as questions like document 01's: made by hand from the public format,
-- by others.
-- Assumes nothing.
use Rattle.std.specs.Prelude.{ℕ, List, [], ◌∷◌}
use Rattle.document_01.specs.Claims.{Claim, shown_by, sixteen}
use Rattle.published.specs.Bc7.{rgba}

abbrev shows : List ℕ → List (List ℕ) → Claim
shows block pixels = record { question = shown_by block; expected = sixteen pixels }

abbrev mode_0 : Claim
mode_0 =
    shows
    (0x05 ∷ 0x3E ∷ 0x1C ∷ 0x00 ∷ 0x1E ∷ 0x20 ∷ 0x1A ∷ 0x3E ∷ 0x3C ∷ 0x5A ∷ 0x45 ∷ 0x3C ∷ 0xF0 ∷ 0x73 ∷ 0x9C ∷ 0xA2 ∷ [])
    (rgba 0 0 0 255 ∷ rgba 72 72 72 255 ∷ rgba 147 147 147 255 ∷ rgba 255 255 255 255 ∷
    rgba 0 16 16 255 ∷ rgba 0 0 0 255 ∷ rgba 255 255 255 255 ∷ rgba 239 8 239 255 ∷
    rgba 0 16 16 255 ∷ rgba 8 222 222 255 ∷ rgba 16 0 16 255 ∷ rgba 239 8 239 255 ∷
    rgba 5 135 135 255 ∷ rgba 2 74 74 255 ∷ rgba 145 5 145 255 ∷ rgba 79 2 79 255 ∷ [])

abbrev mode_1 : Claim
mode_1 =
    shows
    (0xFE ∷ 0xC0 ∷ 0x1F ∷ 0xB8 ∷ 0xC0 ∷ 0x0F ∷ 0x00 ∷ 0xC0 ∷ 0x1F ∷ 0xB8 ∷ 0x22 ∷ 0x1E ∷ 0xF8 ∷ 0x71 ∷ 0x9C ∷ 0xA2 ∷ [])
    (rgba 0 0 0 255 ∷ rgba 57 2 57 255 ∷ rgba 146 146 146 255 ∷ rgba 253 253 253 255 ∷
    rgba 0 0 0 255 ∷ rgba 6 2 6 255 ∷ rgba 253 253 253 255 ∷ rgba 253 253 253 255 ∷
    rgba 0 0 0 255 ∷ rgba 187 2 187 255 ∷ rgba 6 2 6 255 ∷ rgba 187 2 187 255 ∷
    rgba 146 146 146 255 ∷ rgba 57 2 57 255 ∷ rgba 111 2 111 255 ∷ rgba 57 2 57 255 ∷ [])

abbrev mode_2 : Claim
mode_2 =
    shows
    (0xA4 ∷ 0xC1 ∷ 0x0F ∷ 0x0E ∷ 0x00 ∷ 0xF0 ∷ 0x01 ∷ 0x80 ∷ 0x0D ∷ 0xFC ∷ 0xE0 ∷ 0x60 ∷ 0x43 ∷ 0x26 ∷ 0x1D ∷ 0x1E ∷ [])
    (rgba 0 0 0 255 ∷ rgba 0 132 132 255 ∷ rgba 0 124 124 255 ∷ rgba 0 115 115 255 ∷
    rgba 84 84 84 255 ∷ rgba 8 0 8 255 ∷ rgba 43 0 43 255 ∷ rgba 80 0 80 255 ∷
    rgba 171 171 171 255 ∷ rgba 115 0 115 255 ∷ rgba 8 0 8 255 ∷ rgba 8 0 8 255 ∷
    rgba 255 255 255 255 ∷ rgba 0 107 107 255 ∷ rgba 0 132 132 255 ∷ rgba 0 132 132 255 ∷ [])

abbrev mode_3 : Claim
mode_3 =
    shows
    (0x18 ∷ 0x00 ∷ 0xFE ∷ 0x42 ∷ 0x38 ∷ 0xE0 ∷ 0x0F ∷ 0x00 ∷ 0x00 ∷ 0xFE ∷ 0x42 ∷ 0xB8 ∷ 0x82 ∷ 0x2B ∷ 0xD5 ∷ 0x7E ∷ [])
    (rgba 0 0 0 255 ∷ rgba 0 0 0 255 ∷ rgba 0 0 0 255 ∷ rgba 225 1 225 255 ∷
    rgba 84 84 84 255 ∷ rgba 84 84 84 255 ∷ rgba 84 84 84 255 ∷ rgba 194 1 194 255 ∷
    rgba 171 171 171 255 ∷ rgba 171 171 171 255 ∷ rgba 171 171 171 255 ∷ rgba 163 0 163 255 ∷
    rgba 255 255 255 255 ∷ rgba 255 255 255 255 ∷ rgba 255 255 255 255 ∷ rgba 132 0 132 255 ∷ [])

abbrev mode_4 : Claim
mode_4 =
    shows
    (0xB0 ∷ 0xE0 ∷ 0xBF ∷ 0xF7 ∷ 0x01 ∷ 0xF4 ∷ 0xCB ∷ 0xC9 ∷ 0xC9 ∷ 0xC9 ∷ 0x89 ∷ 0xC6 ∷ 0xFA ∷ 0x88 ∷ 0xC6 ∷ 0xFA ∷ [])
    (rgba 65 123 255 0 ∷ rgba 127 123 219 36 ∷ rgba 193 123 183 72 ∷ rgba 255 123 147 108 ∷
    rgba 65 123 108 147 ∷ rgba 127 123 72 183 ∷ rgba 193 123 36 219 ∷ rgba 255 123 0 255 ∷
    rgba 65 123 255 0 ∷ rgba 127 123 219 36 ∷ rgba 193 123 183 72 ∷ rgba 255 123 147 108 ∷
    rgba 65 123 108 147 ∷ rgba 127 123 72 183 ∷ rgba 193 123 36 219 ∷ rgba 255 123 0 255 ∷ [])

abbrev mode_5 : Claim
mode_5 =
    shows
    (0xE0 ∷ 0x80 ∷ 0x3F ∷ 0x10 ∷ 0xF8 ∷ 0x07 ∷ 0x40 ∷ 0xFC ∷ 0xCB ∷ 0xC9 ∷ 0xC9 ∷ 0xC9 ∷ 0x01 ∷ 0x55 ∷ 0xAA ∷ 0xFF ∷ [])
    (rgba 0 129 16 255 ∷ rgba 84 129 16 171 ∷ rgba 171 129 16 84 ∷ rgba 255 129 16 0 ∷
    rgba 0 129 94 255 ∷ rgba 84 129 94 171 ∷ rgba 171 129 94 84 ∷ rgba 255 129 94 0 ∷
    rgba 0 129 177 255 ∷ rgba 84 129 177 171 ∷ rgba 171 129 177 84 ∷ rgba 255 129 177 0 ∷
    rgba 0 129 255 255 ∷ rgba 84 129 255 171 ∷ rgba 171 129 255 84 ∷ rgba 255 129 255 0 ∷ [])

abbrev mode_6 : Claim
mode_6 =
    shows
    (0x40 ∷ 0xC0 ∷ 0x1F ∷ 0x08 ∷ 0xFC ∷ 0x03 ∷ 0x20 ∷ 0xFF ∷ 0x10 ∷ 0x32 ∷ 0x54 ∷ 0x76 ∷ 0x98 ∷ 0xBA ∷ 0xDC ∷ 0xFE ∷ [])
    (rgba 1 129 255 33 ∷ rgba 17 129 239 47 ∷ rgba 37 129 219 64 ∷ rgba 52 129 203 78 ∷
    rgba 68 129 187 92 ∷ rgba 84 129 171 106 ∷ rgba 104 129 151 123 ∷ rgba 120 129 135 137 ∷
    rgba 135 128 120 150 ∷ rgba 151 128 104 164 ∷ rgba 171 128 84 181 ∷ rgba 187 128 68 195 ∷
    rgba 203 128 52 209 ∷ rgba 218 128 36 223 ∷ rgba 238 128 16 240 ∷ rgba 254 128 0 254 ∷ [])

abbrev mode_7 : Claim
mode_7 =
    shows
    (0x80 ∷ 0x08 ∷ 0xF8 ∷ 0xE0 ∷ 0x83 ∷ 0x1F ∷ 0x3C ∷ 0xF8 ∷ 0xA2 ∷ 0x83 ∷ 0x3F ∷ 0xB8 ∷ 0xC9 ∷ 0xC9 ∷ 0xC9 ∷ 0x29 ∷ [])
    (rgba 0 0 0 0 ∷ rgba 84 84 84 84 ∷ rgba 171 171 171 171 ∷ rgba 255 255 255 255 ∷
    rgba 0 0 0 0 ∷ rgba 84 84 84 84 ∷ rgba 171 171 171 171 ∷ rgba 255 255 255 255 ∷
    rgba 0 0 0 0 ∷ rgba 84 84 84 84 ∷ rgba 171 171 171 171 ∷ rgba 251 243 235 227 ∷
    rgba 0 0 0 0 ∷ rgba 84 84 84 84 ∷ rgba 85 88 91 93 ∷ rgba 4 12 20 28 ∷ [])

abbrev pub piglit : List Claim
piglit = mode_0 ∷ mode_1 ∷ mode_2 ∷ mode_3 ∷ mode_4 ∷ mode_5 ∷ mode_6 ∷ mode_7 ∷ []
