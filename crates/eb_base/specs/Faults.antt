-- What the faults of a document and of a setting say when they are printed.
use Rattle.std.specs.Prelude.{ℕ, List, codes}
use Rattle.eb_base.specs.declared.document.DocFault.{DocFault}
use Rattle.eb_base.specs.declared.document.DocFault.TheVariants.{TooManyTokens, TooManyBytes}
use Rattle.eb_base.specs.declared.config.ConfigFault.{ConfigFault}
use Rattle.eb_base.specs.declared.config.ConfigFault.TheVariants.{Segments, Docs, Terms, Words}

-- why a list of terms isn't a document's
abbrev pub doc_fault_text : DocFault → List ℕ
doc_fault_text TooManyTokens = codes "more than 1,024 terms"
doc_fault_text TooManyBytes = codes "more than 16,384 bytes of terms"

-- why the numbers aren't a setting
abbrev pub config_fault_text : ConfigFault → List ℕ
config_fault_text Segments = codes "not 1 to 64 segments"
config_fault_text Docs = codes "not 1 to 16,777,216 documents a segment"
config_fault_text Terms = codes "the terms of a segment are no power of two from 1,024 to 1,048,576"
config_fault_text Words = codes "more than 134,217,728 words"
