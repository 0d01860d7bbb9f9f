pub mod EnoughCarried
