-- The limits of packages, functions and code.
use Rattle.std.specs.Prelude.{ℕ}

-- functions of a package, and its variables
abbrev pub most_functions : ℕ
most_functions = 4096

abbrev pub most_variables : ℕ
most_variables = 4096

-- values and blocks of a function, in the text
abbrev pub most_values : ℕ
most_values = 16384

abbrev pub most_blocks : ℕ
most_blocks = 4096

-- values of a function while it is rewritten
abbrev pub most_values_made : ℕ
most_values_made = 32768

-- arguments and results of a signature together
abbrev pub most_in_signature : ℕ
most_in_signature = 64

-- bytes of the data window, of a frame with its own words, and of text and pool together
abbrev pub most_window : ℕ
most_window = 1048576

abbrev pub most_frame : ℕ
most_frame = 32760

abbrev pub most_text : ℕ
most_text = 16777216
