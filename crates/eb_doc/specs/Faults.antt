-- What a fault of a document line says when it is printed.
use Rattle.std.specs.Prelude.{ℕ, List, codes}
use Rattle.eb_doc.specs.declared.LineFault.{LineFault}
use Rattle.eb_doc.specs.declared.LineFault.TheVariants.{BadJson, BadDocument, TooLong, NoMemory}

-- why a line gives no document
abbrev pub line_fault_text : LineFault → List ℕ
line_fault_text BadJson = codes "bad json"
line_fault_text BadDocument = codes "bad document"
line_fault_text TooLong = codes "too long"
line_fault_text NoMemory = codes "memory ran out"
