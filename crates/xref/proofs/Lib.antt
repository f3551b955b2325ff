pub mod MentionRows
