-- Laws about the printed table and where it leads.
pub mod LeadLaws
