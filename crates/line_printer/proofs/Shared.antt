-- The laws of printing that the proofs of other crates cite: they cite them from here alone.
pub use Rattle.line_printer.proofs.Chains.{and_then, in_all}
pub use Rattle.line_printer.proofs.Lines.{lines_of_append, puts_more, puts_item, puts_numbered, puts_field, fields_append, fields_then, whole_line}
pub use Rattle.line_printer.proofs.Sheets.{on_sheet}
